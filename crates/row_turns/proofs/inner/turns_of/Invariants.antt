use mathlib.Core.Path.{◌≡◌}
use Prim.Native.Nat.{◌≤◌, ◌<◌, ◌-◌}
use lib.ListN.{length}
use Rattle.row_turns.proofs.Laws.{Going}
use Rattle.row_turns.proofs.inner.turns_of.Given as goal

abbrev pub invariant-loop-i : goal.invariant-loop-i
invariant-loop-i l = (l.j ≤ l.i) × (l.i < l.n) × (l.n ≡ length l.y) × (length l.turns ≡ length l.initial.turns) × Going l.y l.turns l.j l.i l.up

abbrev pub decreases-loop-i : goal.decreases-loop-i
decreases-loop-i l = l.n - l.i
