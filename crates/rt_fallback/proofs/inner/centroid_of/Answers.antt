use Rattle.rt_fallback.specs.Fallback.{centroid}
use Rattle.rt_fallback.proofs.inner.centroid_of.Goals as goal

pub returns-then-s : goal.returns-then-s
unfolding centroid
returns-then-s c = rw (← c.sums_of-s.ensures, c.if-s.true)

pub returns-else-s : goal.returns-else-s
unfolding centroid
returns-else-s c = rw (← c.sums_of-s.ensures, c.if-s.false) c.of_index.ensures
