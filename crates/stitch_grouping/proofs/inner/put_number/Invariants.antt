use mathlib.Core.Path.{◌≡◌}
use lib.ListN.{take}
use Rattle.stitch_grouping.specs.Walk.{numbered}
use Rattle.stitch_grouping.proofs.inner.put_number.Given as goal

abbrev pub invariant-loop-p : goal.invariant-loop-p
invariant-loop-p l = l.column ≡ numbered l.number (take l.p-index l.places) l.initial.column
