use Rattle.row_apex.specs.Apex.{left_of, up_to_higher, least}
use mathlib.Core.Path.{◌≡◌}
use Prim.Native.Nat.{◌≤◌}
use Rattle.row_apex.proofs.inner.left_least.Given as goal

abbrev pub invariant-loop-l : goal.invariant-loop-l
invariant-loop-l l = (l.l ≤ l.i) × (least l.apex (up_to_higher l.apex (left_of l.y l.i)) ≡ least l.m (up_to_higher l.apex (left_of l.y l.l)))

abbrev pub decreases-loop-l : goal.decreases-loop-l
decreases-loop-l l = l.l
