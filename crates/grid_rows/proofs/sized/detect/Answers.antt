use mathlib.Core.Path.{◌≡◌, sym, ◌∙◌, ap}
use lib.ListN.{length}
use native.Mathlib.Nat.{le-add_right}
use lib.Seq.{take_at, length-take-le}
use lib.ListN.{length-append}
use Rattle.row_smoothing.proofs.Laws.{normalised-length}
use Rattle.grid_rows.proofs.Laws.{few-weights}
use Rattle.grid_rows.proofs.sized.detect.Goals as goal

pub slice_bounds-divided-end : goal.slice_bounds-divided-end
slice_bounds-divided-end c = few-weights c.args.weights.now c.requires.0.weighed

pub slice_bounds-normalise-end : goal.slice_bounds-normalise-end
slice_bounds-normalise-end c = sym (length-take-le (length c.args.weights.now) _ (few-weights c.args.weights.now c.requires.0.weighed))

pub normalise-requires : goal.normalise-requires
normalise-requires c = sym (length-take-le (length c.args.weights.now) _ (few-weights c.args.weights.now c.requires.0.weighed))

pub slice_bounds-divided-end-2 : goal.slice_bounds-divided-end-2
slice_bounds-divided-end-2 c = let ws = c.args.weights.now in
    let e : length c.normalise.new.u ≡ length ws = ap length c.normalise.ensures ∙ normalised-length ws in
    rw (length-append, e) (le-add_right (length ws) _)

pub slice_bounds-kernel-end : goal.slice_bounds-kernel-end
slice_bounds-kernel-end c = let ws = c.args.weights.now in
    let e : length c.normalise.new.u ≡ length ws = ap length c.normalise.ensures ∙ normalised-length ws in
    sym (ap length (take_at c.normalise.new.u _ (length ws) e) ∙ e)
