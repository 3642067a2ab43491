-- Readings that are numbers with a clear sign: they order like their bit patterns.
use Rattle.std.specs.Prelude.{◌≡◌, ℕ, ◌<◌, true, T, List, length, nat_le, nat_lt, to_bits, Float}
use Rattle.std.specs.Float.{binary32}
use Rattle.std.specs.Float.Ieee.{fits, lt, le}
use Rattle.limits.specs.Limits.{any_number}
use Rattle.numeric.specs.Arith.{at}
use Rattle.numeric.specs.Numeric.{in_range}

-- the pattern of a float, and of the reading at an index
abbrev pub word : Float → ℕ
word x = to_bits binary32 x

abbrev pub word_in : List Float → ℕ → ℕ
word_in y i = word (at y i)

-- every reading is a binary32 value. A slice of f32 holds no others, but owning one does not tell it: `all_fit` does.
abbrev pub AllFit : List Float → Type 0
AllFit y = (i : ℕ) → i < length y → T (fits binary32 (at y i))

-- a value from plus zero to infinity
pub record Plain (x : Float) : Type 0 where
  pub held : T (fits binary32 x)
  pub ranged : in_range any_number x ≡ true

abbrev pub AllPlain : List Float → Type 0
AllPlain y = (i : ℕ) → i < length y → Plain (at y i)

-- two of them compare as their patterns do: `le-bits` and `lt-bits` in proofs/Patterns.antt
abbrev pub LeAsPatterns : Type 0
LeAsPatterns = (x y : Float) → Plain x → Plain y → le x y ≡ nat_le (word x) (word y)

abbrev pub LtAsPatterns : Type 0
LtAsPatterns = (x y : Float) → Plain x → Plain y → lt x y ≡ nat_lt (word x) (word y)
