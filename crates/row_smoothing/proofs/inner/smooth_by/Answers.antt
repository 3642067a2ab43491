use mathlib.Core.Path.{◌∙◌}
use Prim.Native.Nat.{◌-◌}
use native.Mathlib.Omega.{arith}
use lib.ListN.{length}
use Rattle.row_smoothing.specs.Smoothing.{tabulate, radius, smoothed_at}
use Rattle.row_smoothing.proofs.Laws.{filled-thrice, filled-join}
use Rattle.row_smoothing.proofs.inner.smooth_by.Goals as goal

pub returns-then-n-r : goal.returns-then-n-r
unfolding tabulate
returns-then-n-r c = let y = c.args.src.now in
    c.ends.ensures ∙ filled-join (smoothed_at c.args.u.now y) 0 (length y) c.args.dst.now (omega arith) (omega arith)

pub returns : goal.returns
returns c = let u = c.args.u.now in
    let y = c.args.src.now in
    filled-thrice (smoothed_at u y) (radius u) (length y - radius u) (length y) c.args.dst.now _ _ _ (omega (arith, c.if-n-r.false)) (omega arith) c.requires c.ends-2.ensures c.middle.ensures c.ends-3.ensures
