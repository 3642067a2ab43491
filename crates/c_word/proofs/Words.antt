-- What a word tells.
use mathlib.Core.Path.{◌≡◌, refl, ap}
use mathlib.Core.Bool.{Bool, true, false, cond, ◌&&◌}
use mathlib.Core.List.{List, [], ◌∷◌}
use mathlib.Core.Option.{none, some}
use Prim.Native.Nat.{ℕ, ◌*◌, ◌<◌, ◌^◌}
use native.Mathlib.Omega.{arith}
use borrow.Author.Tests.{eqb-true, eqb-false, ltb-true}
use lib.Dec.{eqb, ltb}
use Rattle.refusal.specs.Refusal.{Check, first_of}
use Rattle.refusal.specs.Answers.{answer_by}
use Rattle.refusal.proofs.Bools.{both}
use Rattle.c_word.specs.Word.{as_word, word_of, Told}

-- ---- numbers

-- all numbers of some checks lie below m
unfoldable pub below : ℕ → List Check → Bool
below m [] = ltb 0 m
below m (c ∷ cs) = ltb c.number m && below m cs

pub first_below : (m : ℕ) (cs : List Check) → below m cs ≡ true → first_of cs < m
unfolding below first_of
first_below m [] h = ltb-true 0 m h
first_below m (c ∷ cs) h = go c.applies (first_below m cs (both (ltb c.number m) h).1)
  where
    go : (b : Bool) → first_of cs < m → cond b c.number (first_of cs) < m
    go true k = ltb-true c.number m (both (ltb c.number m) h).0
    go false k = k

-- ---- words

module _ {A : Type 0} (count : A → ℕ) where
  -- of the two ways to answer
  pub count_word : (v : A) (k : ℕ) → k ≡ count v → k * 64 ≡ as_word count 0 (some v)
  unfolding as_word
  count_word v k e = ap (λ (z : ℕ). z * 64) e

  pub number_word : (n : ℕ) → n ≡ as_word count n none
  unfolding as_word
  number_word n = refl

  pub word_count : (v : A) → as_word count 0 (some v) < 2 ^ 64 → count v * 64 < 2 ^ 64
  unfolding as_word
  word_count v h = h

  -- it is one, and tells number and count
  module _ (n : ℕ) (v : A) (small : n < 64) where
    pub word_fits : (n ≡ 0 → count v * 64 < 2 ^ 64) → word_of count (answer_by n v) < 2 ^ 64
    unfolding as_word
    word_fits h = go (eqb n 0) refl
      where
        go : (b : Bool) → eqb n 0 ≡ b → as_word count n (cond b (some v) none) < 2 ^ 64
        go true e = h (eqb-true n 0 e)
        go false e = omega arith

    pub word-told : Told n (count v) (word_of count (answer_by n v))
    unfolding as_word
    word-told = go (eqb n 0) refl
      where
        go : (b : Bool) → eqb n 0 ≡ b → Told n (count v) (as_word count n (cond b (some v) none))
        go true e = let z = eqb-true n 0 e in record { number = omega arith; count = λ k. omega arith }
        go false e = record { number = omega arith; count = λ k. absurd (eqb-false n 0 e k) }
