use Rattle.stitch_merging.proofs.Laws.{highest-join}
use Rattle.stitch_merging.specs.Walk.{heights_of}
use Rattle.stitch_merging.proofs.inner.Heights.join.Goals as goal

pub returns : goal.returns
unfolding heights_of
returns c = λ ps h. simp (c.max-3.ensures, c.max-2.ensures, c.max.ensures, h, highest-join)
