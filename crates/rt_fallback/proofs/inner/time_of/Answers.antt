use Rattle.rt_fallback.specs.Fallback.{time_of}
use Rattle.rt_fallback.proofs.inner.time_of.Goals as goal

pub returns : goal.returns
unfolding time_of
returns c = simp (c.time_between.ensures, c.clamp.ensures, c.of_u32-2.ensures, c.of_u32.ensures, c.min-j.ensures)
