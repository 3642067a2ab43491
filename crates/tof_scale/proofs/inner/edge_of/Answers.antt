use Rattle.tof_scale.proofs.Laws.{edge-fits}
use native.Mathlib.Omega.{arith}
use Rattle.tof_scale.proofs.inner.edge_of.Goals as goal

pub overflow_mul-result : goal.overflow_mul-result
overflow_mul-result c = let a = c.args in let e = edge-fits a.s.scale a.s.sound a.i c.requires in record { fits = omega arith }

pub overflow_add-result : goal.overflow_add-result
overflow_add-result c = let a = c.args in let e = edge-fits a.s.scale a.s.sound a.i c.requires in record { fits = omega arith }
