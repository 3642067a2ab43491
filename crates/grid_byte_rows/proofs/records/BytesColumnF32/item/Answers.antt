use mathlib.Core.Path.{◌∙◌, ap}
use native.Mathlib.Omega.{arith}
use lib.Ieee.{binary32, of_bits}
use Rattle.grid_word_bytes.proofs.BytesLaws.{floats-length}
use Rattle.grid_byte_rows.proofs.Laws.{float-item}
use Rattle.grid_byte_rows.proofs.records.BytesColumnF32.item.Goals as goal

pub word_at-requires : goal.word_at-requires
word_at-requires c = let l = floats-length c.args.self.list.now in omega (arith, l, c.requires)

pub returns : goal.returns
returns c = λ d. c.float_of.ensures ∙ ap (of_bits binary32) c.word_at.ensures ∙ float-item c.args.self.list.now c.args.i d c.requires
