-- The tests of number 9 on floats, made on the words that they are read from.
use mathlib.Core.Path.{◌≡◌, refl, sym, ap₂, ◌∙◌}
use mathlib.Core.Bool.{Bool, true, false, ◌&&◌}
use Prim.Native.Nat.{ℕ, ◌%◌, ◌^◌, ◌<◌}
use native.Mathlib.Omega.{arith}
use borrow.Author.Tests.{leb-true, leb-false, lt-leb}
use lib.Dec.{leb}
use lib.Ieee.{binary32, le, of_bits}
use lib.Ieee.Bits.{of_bits-fits}
use Rattle.limits.specs.Limits.{max_place, max_offset}
use Rattle.numeric.specs.Plain.{Plain}
use Rattle.numeric.proofs.Patterns.{wider, le-bits, word_back, same_test, range-word}
use Rattle.row_record.specs.Record.{place, offset}

-- a float around zero
pub offset_word : (w : ℕ) → w < 2 ^ 32 → offset (of_bits binary32 w) ≡ leb (w % 0x8000_0000) max_offset
offset_word w h = same_test (λ v. leb (v % 0x8000_0000) max_offset) w h (λ v k. lt-leb (v % 0x8000_0000) max_offset (omega arith))

-- two places in range, the first not above the second: it is in range if the second is. s stands for the tests before these
pub places-words : (s : Bool) (a b : ℕ) → a < 2 ^ 32 → b < 2 ^ 32
    → (s && place (of_bits binary32 a) && place (of_bits binary32 b) && le (of_bits binary32 a) (of_bits binary32 b)) ≡ (s && leb b max_place && leb a b)
places-words false a b h k = refl
places-words true a b h k = rw (in-a, in_b) (go (leb a max_place) (leb b max_place) refl refl)
  where
    in-a : place (of_bits binary32 a) ≡ leb a max_place
    in-a = range-word max_place a h (omega arith)

    in_b : place (of_bits binary32 b) ≡ leb b max_place
    in_b = range-word max_place b k (omega arith)

    plain : (w : ℕ) → place (of_bits binary32 w) ≡ true → Plain (of_bits binary32 w)
    plain w e = record { held = of_bits-fits binary32 w; ranged = wider max_place (of_bits binary32 w) (omega arith) e }

    go : (p q : Bool) → leb a max_place ≡ p → leb b max_place ≡ q → (p && q && le (of_bits binary32 a) (of_bits binary32 b)) ≡ (q && leb a b)
    go true true d e =
        let i = leb-true a max_place d in
        let j = leb-true b max_place e in
        le-bits _ _ (plain a (in-a ∙ d)) (plain b (in_b ∙ e)) ∙ ap₂ leb (word_back a h (omega arith)) (word_back b k (omega arith))
    go false true d e = let i = leb-false a max_place d in let j = leb-true b max_place e in sym (lt-leb a b (omega arith))
    go true false d e = refl
    go false false d e = refl
