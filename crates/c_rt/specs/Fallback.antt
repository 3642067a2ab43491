-- What the C entry of the fallback answers: 64 for a peak and 0 for none, or the number.
use Rattle.std.specs.Prelude.{◌≡◌, List, ℕ, length, Float}
use Rattle.refusal.specs.Answers.{answer_by}
use Rattle.rt_fallback.specs.FallbackNumber.{fallback_number, fallback_count, fallback_list}
use Rattle.c_word.specs.Word.{word_of, itself, Told}

abbrev pub fallback_word : List Float → List ℕ → List Float → List ℕ → Float → ℕ → ℕ → ℕ
fallback_word trace ids times peak frac first room =
    word_of itself (answer_by (fallback_number trace ids times peak frac room) (fallback_count trace ids times peak frac first))

-- The word, and what the lent list holds then: the peak's record at its front where there is a peak, else all as it was.
pub record Answered (trace : List Float) (ids : List ℕ) (times : List Float) (peak : List ℕ) (frac : Float) (first : ℕ) (was is : List ℕ) (r : ℕ) : Type 0 where
  pub word : r ≡ fallback_word trace ids times peak frac first (length was)
  pub out : is ≡ fallback_list trace ids times peak frac first was

-- the word tells the number and whether there is a peak: `fallback-told` in proofs/RtWords.antt
abbrev pub FallbackWordTold : Type 0
FallbackWordTold =
    (trace : List Float) (ids : List ℕ) (times : List Float) (peak : List ℕ) (frac : Float) (first room : ℕ)
    → Told (fallback_number trace ids times peak frac room) (fallback_count trace ids times peak frac first) (fallback_word trace ids times peak frac first room)
