use native.Mathlib.Omega.{arith}
use Rattle.tof_scale.proofs.TofLaws.{plain}
use Rattle.grid_byte_rows.proofs.rows.ByteCallSource.row.Goals as goal

pub overflow_cast-r : goal.overflow_cast-r
overflow_cast-r c = let p = plain c.args.self.now.terms.scale c.requires.0.scale in omega (arith, c.requires.0.bin, p.count, p.max-high, p.step-low)
