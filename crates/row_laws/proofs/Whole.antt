-- Whole numbers, and the whole numbers next to a place, in units of the smallest value (numeric/proofs/Bounds.antt).
use mathlib.Core.Path.{◌≡◌, refl, sym, ap, ◌∙◌, subst}
use mathlib.Core.Bool.{true, false}
use Prim.Native.Nat.{ℕ, ◌+◌, ◌-◌, ◌*◌, ◌/◌, ◌≤◌, ◌<◌, min}
use native.Mathlib.Nat.{le_trans, le_of_eq, lt_of_le_of_lt, lt_of_lt_of_le, mul_comm, mul_assoc, mul_right_comm, mul-one, mul-le-mul_right, mul-lt-mul_of_pos_right, le_of_mul-le-mul_right, lt_of_mul-lt-mul_right, add-mul, div-le_of_le-mul, le-div_iff_mul-le, div-lt_iff_lt-mul, div-mul-le_self}
use native.Mathlib.Omega.{arith}
use lib.IntN.{ℤ, pos}
use lib.Ieee.{Float, nan, inf, fin, binary32, up, down, of_int, to_unsigned}
use lib.Ieee.Fits.{down_pos, of_int-fits}
use lib.Ieee.Exact.{HasValue}
use Rattle.numeric.specs.Arith.{index_f}
use Rattle.numeric.specs.Numeric.{cast_f}
use Rattle.numeric.proofs.Bounds.{one, mag, Num, one-pos, value, value-plus, mag_is}
use Rattle.rounding.specs.Rounding.{floor_f, ceil_f, round_f}
use Rattle.rounding.proofs.Guess.{index-value}

-- ---- whole numbers as floats
in-units : (x : Float) (n : ℕ) → HasValue x false n 1 → HasValue x false (n * one) one
in-units nan n h = h
in-units (inf s) n h = h
in-units (fin s m e) n h = (h.0, ap (λ (z : ℕ). z * one) (sym (mul-one (m * up e)) ∙ h.1) ∙ mul_right_comm n (down e) one)

pub num-index : (n : ℕ) → n ≤ 16777216 → Num (index_f n)
num-index n h = record { held = of_int-fits binary32 (pos n); clear = value-plus (index_f n) n 1 (index-value n h) }

pub mag-index : (n : ℕ) → n ≤ 16777216 → mag (index_f n) ≡ n * one
mag-index n h = mag_is (index_f n) (n * one) (in-units (index_f n) n (index-value n h))

-- ---- a number as a fraction
by_parts : (P : Float → Type 0) → ((m : ℕ) (e : ℤ) → Num (fin false m e) → P (fin false m e)) → (x : Float) → Num x → P x
by_parts P f nan h = absurd h.clear
by_parts P f (inf s) h = absurd h.clear
by_parts P f (fin true m e) h = absurd h.clear
by_parts P f (fin false m e) h = f m e h

module _ (m : ℕ) (e : ℤ) (h : Num (fin false m e)) where
  abbrev a : ℕ
  a = m * up e

  abbrev d : ℕ
  d = down e

  units : a * one ≡ mag (fin false m e) * d
  units = (value (fin false m e) h).1

  at_most : (k : ℕ) → mag (fin false m e) ≤ k * one → a ≤ k * d
  at_most k l = le_of_mul-le-mul_right (le_trans (le_of_eq units) (le_trans (mul-le-mul_right d l) (le_of_eq (mul_right_comm k one d)))) one-pos

  at_least : (k : ℕ) → k * one ≤ mag (fin false m e) → k * d ≤ a
  at_least k l = le_of_mul-le-mul_right (le_trans (le_of_eq (mul_right_comm k d one)) (le_trans (mul-le-mul_right d l) (le_of_eq (sym units)))) one-pos

  -- the whole number below it
  below-le : (k : ℕ) → mag (fin false m e) ≤ k * one → a / d ≤ k
  below-le k l = div-le_of_le-mul d (le_trans (at_most k l) (le_of_eq (mul_comm k d)))

  below-low : a / d * one ≤ mag (fin false m e)
  below-low =
      le_of_mul-le-mul_right
      (le_trans (le_of_eq (mul_right_comm (a / d) one d)) (le_trans (mul-le-mul_right one (div-mul-le_self a d)) (le_of_eq units))) (down_pos e)

  below-high : mag (fin false m e) < (a / d + 1) * one
  below-high =
      let q : a < (a / d + 1) * d = (div-lt_iff_lt-mul (down_pos e)).0 (omega arith) in
      lt_of_mul-lt-mul_right d
      (lt_of_le_of_lt (le_of_eq (sym units)) (lt_of_lt_of_le (mul-lt-mul_of_pos_right q one-pos) (le_of_eq (mul_right_comm (a / d + 1) d one))))

  -- and above it
  above-le : (k : ℕ) → mag (fin false m e) ≤ k * one → (a + (d - 1)) / d ≤ k
  above-le k l =
      let p = at_most k l in
      let D : 0 < down e = down_pos e in
      let s : (k + 1) * d ≡ k * d + 1 * d = add-mul k 1 d in
      let q : (a + (d - 1)) / d < k + 1 = (div-lt_iff_lt-mul (down_pos e)).1 (omega arith) in omega arith

  above-ge : (j : ℕ) → j * one ≤ mag (fin false m e) → j ≤ (a + (d - 1)) / d
  above-ge j l = (le-div_iff_mul-le (down_pos e)).1 (let p = at_least j l in omega arith)

  -- and nearest to it
  nearby-le : (k : ℕ) → mag (fin false m e) ≤ k * one → (a + a + d) / (d * 2) ≤ k
  nearby-le k l =
      let p = at_most k l in
      let D : 0 < down e = down_pos e in
      let s : (k + 1) * (d * 2) ≡ k * d * 2 + 1 * d * 2 = sym (mul_assoc (k + 1) d 2) ∙ ap (λ (z : ℕ). z * 2) (add-mul k 1 d) ∙ add-mul (k * d) (1 * d) 2 in
      let q : (a + a + d) / (d * 2) < k + 1 = (div-lt_iff_lt-mul {k = d * 2} (omega arith)).1 (omega arith) in omega arith

-- ---- the floats
-- x is a whole number from j to k
pub record Between (x : Float) (j k : ℕ) : Type 0 where
  pub g : ℕ
  pub is : x ≡ index_f g
  pub low : j ≤ g
  pub high : g ≤ k

pub floor-between : (x : Float) → Num x → (k : ℕ) → mag x ≤ k * one → Between (floor_f x) 0 k
unfolding floor_f of_int
floor-between = by_parts (λ x. (k : ℕ) → mag x ≤ k * one → Between (floor_f x) 0 k) (λ m e h k l. record { g = a m e h / d m e h; is = refl; low = omega arith; high = below-le m e h k l })

pub ceil-between : (x : Float) → Num x → (j k : ℕ) → j * one ≤ mag x → mag x ≤ k * one → Between (ceil_f x) j k
unfolding ceil_f of_int
ceil-between =
    by_parts (λ x. (j k : ℕ) → j * one ≤ mag x → mag x ≤ k * one → Between (ceil_f x) j k)
    (λ m e h j k l u. record { g = (a m e h + (d m e h - 1)) / d m e h; is = refl; low = above-ge m e h j l; high = above-le m e h k u })

pub round-between : (x : Float) → Num x → (k : ℕ) → mag x ≤ k * one → Between (round_f x) 0 k
unfolding round_f of_int
round-between =
    by_parts (λ x. (k : ℕ) → mag x ≤ k * one → Between (round_f x) 0 k)
    (λ m e h k l. record { g = (a m e h + a m e h + d m e h) / (d m e h * 2); is = refl; low = omega arith; high = nearby-le m e h k l })

-- x lies in the segment s: from sample s to below sample s + 1
pub record Segment (x : Float) (s : ℕ) : Type 0 where
  pub low : s * one ≤ mag x
  pub high : mag x < (s + 1) * one

pub cast-segment : (x : Float) → Num x → (k : ℕ) → k ≤ 16777216 → mag x ≤ k * one → Segment x (cast_f x) × (cast_f x ≤ k)
unfolding to_unsigned
cast-segment =
    by_parts (λ x. (k : ℕ) → k ≤ 16777216 → mag x ≤ k * one → Segment x (cast_f x) × (cast_f x ≤ k))
    (λ m e h k q l.
    let b = below-le m e h k l in
    let c : a m e h / d m e h ≡ min (a m e h / d m e h) 4294967295 = omega arith in
    (subst (Segment (fin false m e)) c (record { low = below-low m e h; high = below-high m e h }), subst (λ (z : ℕ). z ≤ k) c b))
