use mathlib.Core.Path.{◌≡◌}
use mathlib.Core.List.{List}
use Prim.Native.Nat.{ℕ}
use lib.ListN.{length}
use Rattle.row_record.specs.declared.ImPeak1D.{ImPeak1D}
use Rattle.stitch_grouping.specs.Walk.{Gathered}
use Rattle.stitch_grouping.proofs.Laws.{Begun}
use Rattle.stitch_grouping.proofs.inner.group_end.Given as goal

abbrev pub invariant-loop-k : goal.invariant-loop-k
invariant-loop-k l = (ps : List ImPeak1D) (order : List ℕ) → length order ≡ l.sorted.count → Gathered ps l.sorted.words.now order → Begun l.rule l.params ps order l.i l.k l.bucket l.spans
