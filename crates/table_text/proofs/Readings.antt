-- The readings of a row are numbers with a clear sign.
use mathlib.Core.Path.{◌≡◌, refl, sym}
use mathlib.Core.Bool.{true, ◌&&◌}
use mathlib.Core.List.{List, [], ◌∷◌, map}
use Prim.Native.Nat.{ℕ, ◌<◌, ◌*◌, ◌^◌}
use native.Mathlib.Nat.{le_of_eq, mul-one}
use native.Mathlib.Omega.{arith}
use borrow.Author.Tests.{leb-true}
use lib.Dec.{leb, lit<}
use lib.ListN.{length}
use lib.Ieee.{of_int}
use Rattle.numeric.specs.Arith.{index_f}
use Rattle.numeric.specs.Numeric.{in_range, all_in_range}
use Rattle.numeric.proofs.Bounds.{one, rep-whole, round-at-most, num-plain}
use Rattle.table_text.specs.Sizes.{max_number}
use Rattle.table_text.specs.Text.{fields, all_digits, value, is_number, all_numbers, is_row, readings}
use Rattle.refusal.proofs.Bools.{both}

-- a whole number below 2 ^ 24 as a float
index-range : (n : ℕ) → n < 2 ^ 24 → in_range 0x7f80_0000 (index_f n) ≡ true
unfolding of_int
index-range n h =
    (num-plain (index_f n) (round-at-most n 1 (n * one) (lit< tt) (rep-whole n h) (le_of_eq (sym (mul-one (n * one))))).0).ranged

-- a field's number
number-most : (f : List ℕ) → is_number max_number f ≡ true → value f < 2 ^ 24
unfolding is_number
number-most f h =
    let k = leb-true (value f) max_number (both (leb 1 (length f) && leb (length f) 8 && all_digits f) h).1 in omega arith

numbers-range : (fs : List (List ℕ)) → all_numbers max_number fs ≡ true → all_in_range 0x7f80_0000 (map (λ f. index_f (value f)) fs) ≡ true
unfolding all_numbers all_in_range
numbers-range [] h = refl
numbers-range (f ∷ fs) h =
    let b = both (is_number max_number f) h in
    rw (index-range (value f) (number-most f b.0), numbers-range fs b.1)

pub readings-range : (line : List ℕ) → is_row line ≡ true → all_in_range 0x7f80_0000 (readings line) ≡ true
unfolding is_row readings
readings-range line h = numbers-range (fields line) (both (all_numbers max_number (fields line)) h).0
