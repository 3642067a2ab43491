use mathlib.Core.List.{[]}
use Rattle.stitch_merging.specs.Merging.{highest_f}
use Rattle.stitch_merging.specs.Walk.{heights_of}
use Rattle.stitch_merging.proofs.inner.Heights.start.Goals as goal

pub returns : goal.returns
unfolding heights_of highest_f
returns c = c.join.ensures [] (rw c.float_of-least.ensures)
