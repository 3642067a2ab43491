use Rattle.row_apex.specs.Apex.{right_of, up_to_higher, least}
use mathlib.Core.Path.{◌≡◌}
use Prim.Native.Nat.{◌≤◌, ◌-◌, ◌+◌}
use lib.ListN.{length, drop}
use Rattle.row_apex.proofs.inner.right_least.Given as goal

abbrev pub invariant-loop-r : goal.invariant-loop-r
invariant-loop-r l = (l.r ≤ length l.y) × (l.i + 1 ≤ l.r) × (least l.apex (up_to_higher l.apex (right_of l.y l.i)) ≡ least l.m (up_to_higher l.apex (drop l.r l.y)))

abbrev pub decreases-loop-r : goal.decreases-loop-r
decreases-loop-r l = length l.y - l.r
