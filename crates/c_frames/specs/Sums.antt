-- What the C entries of marginals and traces answer: 64 times the count of sums, or the number.
use Rattle.std.specs.Prelude.{◌≡◌, cond, List, ◌++◌, ℕ, eqb, length, drop, Float}
use Rattle.refusal.specs.Answers.{answer_by}
use Rattle.limits.specs.Limits.{max_reading}
use Rattle.frames_index.specs.declared.numbers.Further.{Further}
use Rattle.frames_index.specs.FrameIndex.{Index}
use Rattle.frames_index.specs.IndexNumber.{index_number}
use Rattle.c_word.specs.Word.{word_of, itself, Told}

-- the word of a call on an index, with readings to 2^32
abbrev pub sums_word : Index → Further → List Float → ℕ
sums_word ix asks sums = word_of itself (answer_by (index_number max_reading ix asks) (length sums))

-- The word, and what the lent list holds then. Accepted: the sums stand at its front, and behind them what was there. Refused: all is as
-- it was.
pub record Summed (ix : Index) (asks : Further) (sums was is : List Float) (r : ℕ) : Type 0 where
  pub word : r ≡ sums_word ix asks sums
  pub out : is ≡ cond (eqb (index_number max_reading ix asks) 0) (sums ++ drop (length sums) was) was

-- the word tells the number and the count of sums: `sums-told` in proofs/SumWords.antt
abbrev pub SumsTold : Type 0
SumsTold = (ix : Index) (asks : Further) (sums : List Float) → Told (index_number max_reading ix asks) (length sums) (sums_word ix asks sums)
