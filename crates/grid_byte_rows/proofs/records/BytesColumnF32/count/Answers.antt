use mathlib.Core.Path.{sym}
use Rattle.grid_word_bytes.proofs.BytesLaws.{floats-length}
use Rattle.grid_byte_rows.proofs.records.BytesColumnF32.count.Goals as goal

pub returns : goal.returns
returns c = sym (floats-length c.args.self.list.now)
