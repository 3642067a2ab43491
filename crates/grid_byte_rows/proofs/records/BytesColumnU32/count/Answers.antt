use mathlib.Core.Path.{sym}
use Prim.Native.Nat.{◌/◌}
use lib.ListN.{length}
use Rattle.grid_word_bytes.proofs.BytesLaws.{words-length}
use Rattle.grid_byte_rows.proofs.records.BytesColumnU32.count.Goals as goal

pub returns : goal.returns
returns c = sym (words-length c.args.self.list.now (length c.args.self.list.now / 4))
