use Rattle.stitch_merging.proofs.Laws.{sum-join}
use Rattle.stitch_merging.specs.Walk.{sums_of}
use Rattle.stitch_merging.proofs.inner.Sums.join.Goals as goal

pub returns : goal.returns
unfolding sums_of
returns c = λ ps h.
    simp (c.weight_of-weight.ensures, c.of_u32.ensures, c.of_u32-2.ensures, c.of_u32-3.ensures, c.of_u32-4.ensures, h, sum-join)
