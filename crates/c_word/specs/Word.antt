-- What a C entry answers as one word: 64 times a count, or a number, which lies below 64.
use Rattle.std.specs.Prelude.{◌≡◌, ℕ, ◌*◌, ◌/◌, ◌%◌}
use Rattle.std.proofs.Math.Option.{Option, none, some}
use Rattle.refusal.specs.Answers.{Says}

-- what an answer says as one word: 64 times the count among its values, or its number where it has none
unfoldable pub as_word : {A : Type 0} → (A → ℕ) → ℕ → Option A → ℕ
as_word count n none = n
as_word count n (some v) = count v * 64

abbrev pub word_of : {A : Type 0} → (A → ℕ) → Says A → ℕ
word_of count s = as_word count s.number s.values

-- a value that is a count
abbrev pub itself : ℕ → ℕ
itself n = n

-- the word w tells the number n, which is 0 for none, and the count c where there is none
pub record Told (n c w : ℕ) : Type 0 where
  pub number : w % 64 ≡ n
  pub count : n ≡ 0 → w / 64 ≡ c
