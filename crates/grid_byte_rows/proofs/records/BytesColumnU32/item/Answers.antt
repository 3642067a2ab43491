use mathlib.Core.Path.{◌∙◌}
use Prim.Native.Nat.{◌/◌}
use native.Mathlib.Omega.{arith}
use lib.ListN.{length}
use Rattle.grid_word_bytes.proofs.BytesLaws.{words-length}
use Rattle.grid_byte_rows.proofs.Laws.{word-item}
use Rattle.grid_byte_rows.proofs.records.BytesColumnU32.item.Goals as goal

pub word_at-requires : goal.word_at-requires
word_at-requires c = let l = words-length c.args.self.list.now (length c.args.self.list.now / 4) in omega (arith, l, c.requires)

pub returns : goal.returns
returns c = λ d. c.word_at.ensures ∙ word-item c.args.self.list.now c.args.i d c.requires
