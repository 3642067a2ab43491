use Rattle.row_apex.specs.Apex.{left_foot}
use mathlib.Core.Path.{◌≡◌}
use Prim.Native.Nat.{◌≤◌}
use Rattle.row_apex.proofs.inner.Level.left_foot.Given as goal

abbrev pub invariant-loop-w : goal.invariant-loop-w
invariant-loop-w l = (l.w ≤ l.i) × (left_foot l.y l.h l.i ≡ left_foot l.y l.h l.w)

abbrev pub decreases-loop-w : goal.decreases-loop-w
decreases-loop-w l = l.w
