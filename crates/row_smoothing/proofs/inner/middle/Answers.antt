use Prim.Native.Nat.{◌-◌}
use native.Mathlib.Omega.{arith}
use lib.ListN.{length}
use Rattle.row_smoothing.specs.Smoothing.{radius, smoothed_at}
use Rattle.row_smoothing.proofs.Laws.{filled-part}
use Rattle.row_smoothing.proofs.inner.middle.Goals as goal

pub returns : goal.returns
returns c = let u = c.args.u.now in
    let y = c.args.src.now in
    filled-part (smoothed_at u y) (radius u) (length y - radius u) c.args.dst.now c.middle_part.new.dst (omega arith) (omega arith) c.middle_part.ensures
