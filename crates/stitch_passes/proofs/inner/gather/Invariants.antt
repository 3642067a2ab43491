use mathlib.Core.Path.{◌≡◌}
use mathlib.Core.List.{◌++◌}
use Prim.Native.Nat.{◌*◌}
use lib.ListN.{take, drop}
use Rattle.row_record.specs.Record.{size}
use Rattle.stitch_passes.specs.Steps.{records_at}
use Rattle.stitch_passes.proofs.inner.gather.Given as goal

abbrev pub invariant-loop-i : goal.invariant-loop-i
invariant-loop-i l = l.sorted ≡ records_at l.list (take l.i l.order) ++ drop (l.i * size) l.initial.sorted
