-- The crossings at half height, for numbers that do not overflow, and so for readings from 0 to 2 ^ 33.
use mathlib.Core.Path.{◌≡◌, refl, sym, ◌∙◌, subst}
use mathlib.Core.Bool.{true}
use mathlib.Core.List.{List}
use Prim.Native.Nat.{ℕ, ◌-◌, ◌^◌, ◌≤◌, ◌<◌, zero-le}
use native.Mathlib.Nat.{le_trans, le_of_eq, lt_of_le_of_lt}
use native.Mathlib.Omega.{arith}
use borrow.Author.Tests.{le-leb}
use lib.Dec.{lit<}
use lib.ListN.{length}
use lib.Ieee.{Float, le, of_bits}
use Rattle.numeric.specs.Arith.{𝟎, index_f, at}
use Rattle.numeric.specs.Numeric.{all_in_range}
use Rattle.numeric.specs.Plain.{AllFit}
use Rattle.numeric.proofs.Patterns.{range_at}
use Rattle.numeric.proofs.Bounds.{one, mag, Num, AtMost, le-mag, limit_f, in-at-most, mag-zero, num-zero}
use Rattle.row_apex.specs.Apex.{baseline, half_height}
use Rattle.row_search.specs.Qualifying.{left_x, right_x}
use Rattle.row_laws.specs.Enclosed.{AllEnclosed}
use Rattle.row_laws.proofs.Whole.{num-index, mag-index}
use Rattle.row_laws.proofs.Heights.{base-is, Half, half_is}
use Rattle.row_laws.proofs.Crossings.{Place, left-place, right-place}

-- of any numbers below 2 ^ 104
module _ (y : List Float) (nums : (k : ℕ) → k < length y → Num (at y k)) (most : (k : ℕ) → k < length y → mag (at y k) < 2 ^ 253) (short : length y ≤ 16384) (i : ℕ) (inside : i < length y) where
  pub half_at : Half y nums i inside (half_height y i)
  half_at = half_is y nums i inside (most i inside)

  pub left_at : Place (left_x y i) 0 i
  unfolding left_x
  left_at = let b = base-is y nums i inside in left-place y nums short (half_height y i) half_at.num i inside b.left.0 b.left.1 (le_trans b.left.2 half_at.low)

  pub right-at : Place (right_x y i) i (length y - 1)
  unfolding right_x
  right-at =
      let b = base-is y nums i inside in
      right-place y nums short (half_height y i) half_at.num i inside b.right.0 b.right.1 b.right.2 (le_trans b.right.3 half_at.low)

-- 2 ^ 33
pub mag-smoothed : mag (limit_f 0x5000_0000) ≡ 2 ^ 182
unfolding mag one of_bits
mag-smoothed = refl

module _ (y : List Float) (fit : AllFit y) (ranged : all_in_range 0x5000_0000 y ≡ true) (short : length y ≤ 16384) where
  pub smoothed-at-most : (k : ℕ) → k < length y → AtMost (at y k) (2 ^ 182)
  smoothed-at-most k l = subst (AtMost (at y k)) mag-smoothed (in-at-most 0x5000_0000 (at y k) (lit< tt) (fit k l) (range_at 0x5000_0000 y k ranged l))

  pub nums : (k : ℕ) → k < length y → Num (at y k)
  nums k l = (smoothed-at-most k l).0

  most : (k : ℕ) → k < length y → mag (at y k) < 2 ^ 253
  most k l = lt_of_le_of_lt (smoothed-at-most k l).1 (lit< tt)

  module _ (i : ℕ) (inside : i < length y) where
    half : Half y nums i inside (half_height y i)
    half = half_at y nums most short i inside

    pub left : Place (left_x y i) 0 i
    left = left_at y nums most short i inside

    pub right : Place (right_x y i) i (length y - 1)
    right = right-at y nums most short i inside

in_order : (x y : Float) → Num x → Num y → mag x ≤ mag y → le x y ≡ true
in_order x y p q h = le-mag x y p q ∙ le-leb (mag x) (mag y) h

pub all-enclosed : AllEnclosed
all-enclosed y fit ranged short i inside =
    let h = half y fit ranged short i inside in
    let l = left y fit ranged short i inside in
    let r = right y fit ranged short i inside in
    let n = nums y fit ranged short in
    record {
      above-baseline = in_order (baseline y i) (half_height y i) (base-is y n i inside).num h.num h.low;
      below-apex = in_order (half_height y i) (at y i) h.num (n i inside) h.high;
      from_first = in_order 𝟎 (left_x y i) num-zero l.num (rw mag-zero zero-le);
      left-of-apex = in_order (left_x y i) (index_f i) l.num (num-index i (omega arith)) (le_trans l.high (le_of_eq (sym (mag-index i (omega arith)))));
      right-of-apex = in_order (index_f i) (right_x y i) (num-index i (omega arith)) r.num (le_trans (le_of_eq (mag-index i (omega arith))) r.low);
      to_last = in_order (right_x y i) (index_f (length y - 1)) r.num (num-index (length y - 1) (omega arith)) (le_trans r.high (le_of_eq (sym (mag-index (length y - 1) (omega arith)))));
    }
