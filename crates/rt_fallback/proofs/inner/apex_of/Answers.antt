use Rattle.rt_fallback.specs.Fallback.{apex_of}
use Rattle.rt_fallback.proofs.inner.apex_of.Goals as goal

pub returns : goal.returns
unfolding apex_of
returns c = simp (c.max-prominence.ensures, c.least_of.ensures, c.time_of-rt_sec.ensures, c.clamp-subframe.ensures, c.of_u32.ensures, c.floor_sample-rt_idx.ensures, c.of_index-last.ensures, c.centroid_of-mu.ensures)
