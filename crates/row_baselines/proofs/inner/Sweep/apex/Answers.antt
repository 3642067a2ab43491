use Rattle.numeric.proofs.Patterns.{no_nan}
use Rattle.std.proofs.Common.{◌+◌, ◌*◌}
use lib.ListN.{get_or}
use lib.Ieee.{nan}
use Rattle.row_baselines.proofs.inner.Sweep.apex.Goals as goal

pub float_to_bits-result : goal.float_to_bits-result
float_to_bits-result c = let i = get_or c.args.self.turns.now (2 * c.args.j + 1) 0 in rw (no_nan (get_or c.args.self.y.now i nan) (c.args.self.marked.plain i (c.args.self.marked.apexes c.args.j c.requires)).ranged) tt
