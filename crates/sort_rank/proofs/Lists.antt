-- What is ranked: how many words there are, and each of them.
use mathlib.Core.Path.{◌≡◌, refl, sym, ap, ◌∙◌}
use mathlib.Core.List.{List, [], ◌∷◌}
use Prim.Native.Nat.{ℕ, zero, suc, ◌+◌, ◌-◌, ◌%◌, ◌≤◌, ◌<◌}
use native.Mathlib.Numerals.{add-one}
use native.Mathlib.Omega.{arith}
use borrow.Author.Tests.{le-leb}
use lib.ListN.{length, get_or, length-map}
use lib.Ieee.{Float, nan, binary32}
use lib.Ieee.Fits.{sub-fits}
use Rattle.numeric.specs.Arith.{at, ◌⊖◌}
use Rattle.numeric.specs.Numeric.{abs_f}
use Rattle.numeric.specs.Plain.{word}
use Rattle.sort_rank.specs.Rank.{counted, at_most, words, distances, steps_from, steps}
use Rattle.sort_rank.proofs.Signs.{bits-abs}
use Rattle.std.proofs.lemmas.List.{get_or-map}

-- ---- steps
from-length : (x : Float) (ys : List Float) → length (steps_from x ys) ≡ length ys
unfolding steps_from
from-length x [] = refl
from-length x (y ∷ ys) = ap suc (from-length y ys)

pub steps-length : (xs : List Float) → length (steps xs) ≡ length xs - 1
unfolding steps
steps-length [] = refl
steps-length (x ∷ xs) = from-length x xs ∙ (omega arith)

from_at : (x : Float) (ys : List Float) (i : ℕ) → i < length ys → at (steps_from x ys) i ≡ abs_f (at ys i ⊖ at (x ∷ ys) i)
unfolding steps_from
from_at x [] i h = absurd (omega arith)
from_at x (y ∷ ys) zero h = refl
from_at x (y ∷ ys) (suc i) h = from_at y ys i (omega arith)

pub steps-at : (xs : List Float) (i : ℕ) → i + 1 < length xs → at (steps xs) i ≡ abs_f (at xs (i + 1) ⊖ at xs i)
unfolding steps
steps-at [] i h = absurd (omega arith)
steps-at (x ∷ xs) i h = rw add-one (from_at x xs i (omega arith))

-- ---- how many words
pub count-distances : (m : Float) (xs : List Float) → length (words (distances m xs)) ≡ length xs
count-distances m xs = length-map (distances m xs) word ∙ length-map xs (λ x. abs_f (x ⊖ m))

pub count-steps : (xs : List Float) → length (words (steps xs)) ≡ length xs - 1
count-steps xs = length-map (steps xs) word ∙ steps-length xs

-- ---- each word
abs_word : (a b : Float) (w : ℕ) → w ≡ word (a ⊖ b) → w % 0x8000_0000 ≡ word (abs_f (a ⊖ b))
abs_word a b w e = ap (λ (n : ℕ). n % 0x8000_0000) e ∙ sym (bits-abs (a ⊖ b) (sub-fits binary32 a b))

pub distance-word : (m : Float) (xs : List Float) (i w : ℕ) → i < length xs → w ≡ word (at xs i ⊖ m) → w % 0x8000_0000 ≡ get_or (words (distances m xs)) i 0
distance-word m xs i w h e =
    let l : i < length (distances m xs) = rw (length-map xs (λ x. abs_f (x ⊖ m))) h in
    abs_word (at xs i) m w e ∙ sym (get_or-map word (distances m xs) i nan 0 l ∙ ap word (get_or-map (λ x. abs_f (x ⊖ m)) xs i nan nan h))

pub step-word : (xs : List Float) (i w : ℕ) → i + 1 < length xs → w ≡ word (at xs (i + 1) ⊖ at xs i) → w % 0x8000_0000 ≡ get_or (words (steps xs)) i 0
step-word xs i w h e =
    let l : i < length (steps xs) = rw (steps-length xs) (omega arith) in
    abs_word (at xs (i + 1)) (at xs i) w e ∙ sym (get_or-map word (steps xs) i nan 0 l ∙ ap word (steps-at xs i h))

-- ---- every word has 32 bits
pub to-all : (top : ℕ) (ws : List ℕ) → ((i : ℕ) → i < length ws → get_or ws i 0 ≤ top) → at_most top ws ≡ length ws
unfolding counted
to-all top [] f = refl
to-all top (w ∷ ws) f = rw (le-leb w top (f 0 (omega arith)), to-all top ws (λ i h. f (suc i) (omega arith))) (omega arith)
