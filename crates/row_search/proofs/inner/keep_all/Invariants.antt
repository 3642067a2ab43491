use mathlib.Core.Path.{◌≡◌}
use Prim.Native.Nat.{ℕ, ◌≤◌, ◌<◌, ◌-◌}
use Rattle.row_spans.specs.Memo.{Memo}
use Rattle.row_search.specs.Found.{Keeps, kept_of, after}
use Rattle.row_search.proofs.Laws.{rest_of}
use lib.ListN.{length, get_or}
use Rattle.row_search.proofs.inner.keep_all.Given as goal

abbrev pub invariant-loop-k : goal.invariant-loop-k
invariant-loop-k l = (l.k ≤ l.m) × (length l.bases ≡ length l.initial.bases) × ((j : ℕ) → j < l.m → get_or l.bases j 0 ≡ get_or l.initial.bases j 0) × (length l.found ≡ length l.initial.found) × Memo l.y l.z (rest_of l.m l.bases) l.s.depth (after l.turns l.k) × Keeps l.y l.z l.found (after l.turns l.k) l.s (kept_of l.p l.y l.turns l.k)

abbrev pub decreases-loop-k : goal.decreases-loop-k
decreases-loop-k l = l.m - l.k
