use mathlib.Core.List.{List}
use lib.ListN.{length}
use Prim.Native.Nat.{◌≤◌, ◌-◌}
use Rattle.row_record.specs.declared.ImPeak1D.{ImPeak1D}
use Rattle.stitch_grouping.specs.Walk.{Gathered}
use Rattle.stitch_grouping.proofs.Laws.{Walked}
use Rattle.stitch_grouping.proofs.inner.put_groups.Given as goal

abbrev pub invariant-loop-i : goal.invariant-loop-i
invariant-loop-i l =
    ((ps : List ImPeak1D) → Gathered ps l.sorted l.order → Walked l.rule l.params ps l.order l.initial.merged l.initial.column l.i l.number l.merged l.column)
    × (l.number ≤ l.i) × (l.i ≤ length l.order)

abbrev pub decreases-loop-i : goal.decreases-loop-i
decreases-loop-i l = length l.order - l.i
