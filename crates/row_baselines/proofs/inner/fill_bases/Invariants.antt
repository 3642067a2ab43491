use mathlib.Core.Path.{◌≡◌}
use Prim.Native.Nat.{◌≤◌, ◌-◌}
use lib.ListN.{length}
use Rattle.row_baselines.specs.Lows.{mark_at}
use Rattle.row_baselines.specs.Stack.{Marked, Swept}
use Rattle.row_baselines.proofs.inner.fill_bases.Given as goal

abbrev pub invariant-loop-k : goal.invariant-loop-k
invariant-loop-k l = (l.k ≤ l.m) × (length l.bases ≡ length l.initial.bases) × (length l.stack.words.now ≡ length l.initial.stack.words.now) × Marked l.y l.turns l.m × Swept (mark_at l.y l.turns) l.m l.k l.bases l.stack.words.now l.stack.depth

abbrev pub decreases-loop-k : goal.decreases-loop-k
decreases-loop-k l = l.m - l.k
