use lib.Seq.{take_at}
use lib.ListN.{length, drop}
use mathlib.Core.Path.{◌≡◌, ◌∙◌, ap}
use mathlib.Core.List.{List, ◌++◌}
use lib.Ieee.{Float}
use Rattle.row_smoothing.specs.Smoothing.{tabulate, smoothed_at, smoothed}
use Rattle.row_smoothing.proofs.Laws.{normalised-length}
use Rattle.row_smoothing.proofs.inner.smooth.Goals as goal

pub returns : goal.returns
unfolding smoothed
returns c = let ws = c.args.weights.now in
    let y = c.args.src.now in
    let e : length c.normalise.new.u ≡ length ws = ap length c.normalise.ensures ∙ normalised-length ws in
    c.smooth_by.ensures
    ∙ ap (λ (u : List Float). tabulate (length y) (smoothed_at u y) ++ drop (length y) c.args.dst.now) (take_at c.normalise.new.u _ (length ws) e ∙ c.normalise.ensures)
