use Prim.Native.Nat.{◌≤◌}
use Rattle.row_spans.proofs.inner.still_open.Given as goal

abbrev pub invariant-loop-d : goal.invariant-loop-d
invariant-loop-d l = l.d ≤ l.depth

abbrev pub decreases-loop-d : goal.decreases-loop-d
decreases-loop-d l = l.d
