use Rattle.tof_scale.specs.Tof.{scale_of}
use Rattle.tof_scale.proofs.TofLaws.{rounded-rise}
use mathlib.Core.Path.{refl}
use Rattle.tof_scale.proofs.inner.scale_of.Goals as goal

pub overflow_sub-result : goal.overflow_sub-result
overflow_sub-result c = rounded-rise c.args.step c.args.lo c.args.hi c.requires.0 c.requires.1

pub returns : goal.returns
unfolding scale_of
returns c = refl
