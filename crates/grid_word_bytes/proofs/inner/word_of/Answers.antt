use Rattle.std.proofs.Common.{◌∙◌, arith}
use Rattle.grid_word_bytes.specs.Bytes.{word_at}
use Rattle.grid_word_bytes.proofs.inner.word_of.Goals as goal

pub returns : goal.returns
unfolding word_at
returns c = c.from_le_bytes.ensures ∙ omega arith
