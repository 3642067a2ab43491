-- Whole numbers next to a place that lies between two whole numbers, or between two halves.
use mathlib.Core.Path.{◌≡◌, refl, sym, ap, ◌∙◌, subst}
use mathlib.Core.Bool.{true, false}
use Prim.Native.Nat.{ℕ, ◌+◌, ◌-◌, ◌*◌, ◌/◌, ◌≤◌, ◌<◌}
use native.Mathlib.Nat.{add-mul, mul_assoc, mul_right_comm, div-eq_of_lt-le}
use native.Mathlib.Omega.{arith}
use borrow.Author.Tests.{ltb-true, ltb-false, lt-ltb, le-ltb}
use lib.Dec.{ltb, lit<}
use lib.IntN.{ℤ}
use lib.Ieee.{Float, nan, inf, fin, binary32, up, down, lt, le, is_nan, round, of_int, of_bits, to_unsigned}
use lib.Ieee.Fits.{down_pos}
use lib.Ieee.Exact.{HasValue}
use lib.Ieee.Back.{round_whole, unsigned_back}
use Rattle.numeric.specs.Arith.{◌⊕◌, 𝟎, ½, index_f}
use Rattle.numeric.specs.Numeric.{clamp_f, cast_f}
use Rattle.refusal.proofs.Bools.{clash}
use Rattle.numeric.proofs.Laws.{index_in}
use Rattle.numeric.proofs.Order.{lt-no-nan, not-lt, lt-asym, le_not_lt, lt-le-trans, le_lt_trans}
use Rattle.rounding.specs.Rounding.{floor_f, ceil_f, round_f}
use Rattle.rounding.proofs.Laws.{zero_f, half_f, add_is, lt-is, half-value}

-- ---- whole numbers and halves as floats
pub index-value : (n : ℕ) → n ≤ 16777216 → HasValue (index_f n) false n 1
unfolding of_int
index-value n h = round_whole binary32 false n h

pub cast-index : (n : ℕ) → n ≤ 16777216 → cast_f (index_f n) ≡ n
cast-index n h = (unsigned_back binary32 32 n (index_in n h) (omega arith)).1

half-above : (n : ℕ) → n < 8388608 → HasValue (index_f n ⊕ ½) false (n * 2 + 1) 2
unfolding of_bits
half-above n h =
    subst (λ (z : Float). HasValue z false (n * 2 + 1) 2) (sym (add_is (index_f n) half_f n 1 1 2 (lit< tt) (lit< tt) (index-value n (omega arith)) (refl, refl)))
    (half-value (n * 2 + 1) (omega arith))

-- ---- a place between two values that are not negative
module _ (v : Float) (n c : ℕ) (C : 0 < c) (w : HasValue v false n c) where
  over-zero-lt : (x : Float) → lt v x ≡ true → lt zero_f x ≡ true
  unfolding is_nan
  over-zero-lt x t = le_lt_trans zero_f v x (not-lt v zero_f (lt-no-nan v x t).0 refl (lt-is v zero_f n c 0 1 C (lit< tt) w (refl, refl) ∙ le-ltb (n * 1) (0 * c) (omega arith))) t

  over-zero-le : 0 < n → (x : Float) → le v x ≡ true → lt zero_f x ≡ true
  over-zero-le p x t = lt-le-trans zero_f v x (lt-is zero_f v 0 1 n c (lit< tt) C (refl, refl) w ∙ lt-ltb (0 * c) (n * 1) (omega arith)) t

  -- such a place is not infinite
  held_by : (P : Float → Type 0) → ((m : ℕ) (e : ℤ) → P (fin false m e)) → (x : Float) → lt zero_f x ≡ true → lt v x ≡ false → P x
  unfolding lt
  held_by P f nan g h = clash false g refl
  held_by P f (inf true) g h = clash false g refl
  held_by P f (inf false) g h = finite v w h
    where
      finite : (v : Float) → HasValue v false n c → lt v (inf false) ≡ false → P (inf false)
      finite nan w h = absurd w
      finite (inf s) w h = absurd w
      finite (fin s m e) w h = clash true refl h
  held_by P f (fin true m e) g h = clash false g refl
  held_by P f (fin false m e) g h = f m e

  -- how a place compares
  under : (m : ℕ) (e : ℤ) → lt (fin false m e) v ≡ ltb (m * up e * c) (n * down e)
  under m e = lt-is (fin false m e) v (m * up e) (down e) n c (down_pos e) C (refl, refl) w

  over : (m : ℕ) (e : ℤ) → lt v (fin false m e) ≡ ltb (n * down e) (m * up e * c)
  over m e = lt-is v (fin false m e) n c (m * up e) (down e) C (down_pos e) w (refl, refl)

-- ---- the whole number g next to a place: from g to the next, from the one before it to g, and from half to half
module _ (g : ℕ) (p : 0 < g) where
  floor-at : (m : ℕ) (e : ℤ) → g < 16777216 → lt (fin false m e) (index_f g) ≡ false → lt (fin false m e) (index_f (g + 1)) ≡ true → (floor_f (fin false m e) ≡ index_f g) × (cast_f (fin false m e) ≡ g)
  unfolding floor_f of_int to_unsigned
  floor-at m e q a b =
      let u : g * down e ≤ m * up e * 1 = ltb-false (m * up e * 1) (g * down e) (sym (under (index_f g) g 1 (lit< tt) (index-value g (omega arith)) m e) ∙ a) in
      let v : m * up e * 1 < (g + 1) * down e = ltb-true (m * up e * 1) ((g + 1) * down e) (sym (under (index_f (g + 1)) (g + 1) 1 (lit< tt) (index-value (g + 1) (omega arith)) m e) ∙ b) in
      let k : m * up e / down e ≡ g = div-eq_of_lt-le (down e) (omega arith) (omega arith) in
      (ap (λ (z : ℕ). round binary32 false z 1) k, omega arith)

  pub floor-near : (x : Float) → g < 16777216 → le (index_f g) x ≡ true → lt x (index_f (g + 1)) ≡ true → (floor_f x ≡ index_f g) × (cast_f x ≡ g)
  floor-near x q a b =
      held_by (index_f (g + 1)) (g + 1) 1 (lit< tt) (index-value (g + 1) (omega arith))
      (λ x. lt x (index_f g) ≡ false → lt x (index_f (g + 1)) ≡ true → (floor_f x ≡ index_f g) × (cast_f x ≡ g)) (λ m e. floor-at m e q)
      x (over-zero-le (index_f g) g 1 (lit< tt) (index-value g (omega arith)) p x a) (lt-asym x (index_f (g + 1)) b) (le_not_lt x (index_f g) a) b

  ceil-at : (m : ℕ) (e : ℤ) → g ≤ 16777216 → lt (index_f (g - 1)) (fin false m e) ≡ true → lt (index_f g) (fin false m e) ≡ false → ceil_f (fin false m e) ≡ index_f g
  unfolding ceil_f of_int
  ceil-at m e q a b =
      let u : (g - 1) * down e < m * up e * 1 = ltb-true ((g - 1) * down e) (m * up e * 1) (sym (over (index_f (g - 1)) (g - 1) 1 (lit< tt) (index-value (g - 1) (omega arith)) m e) ∙ a) in
      let v : m * up e * 1 ≤ g * down e = ltb-false (g * down e) (m * up e * 1) (sym (over (index_f g) g 1 (lit< tt) (index-value g q) m e) ∙ b) in
      let d : 0 < down e = down_pos e in
      let one : g - 1 + 1 ≡ g = omega arith in
      let s : (g - 1 + 1) * down e ≡ (g - 1) * down e + 1 * down e = add-mul (g - 1) 1 (down e) in
      let s' : g * down e ≡ (g - 1) * down e + 1 * down e = rw one at s in
      let t : (g + 1) * down e ≡ g * down e + 1 * down e = add-mul g 1 (down e) in
      let r : (m * up e + (down e - 1)) / down e ≡ g = div-eq_of_lt-le (down e) (omega arith) (omega arith) in
      ap (λ (z : ℕ). round binary32 false z 1) r

  pub ceil-near : (x : Float) → g ≤ 16777216 → lt (index_f (g - 1)) x ≡ true → le x (index_f g) ≡ true → ceil_f x ≡ index_f g
  ceil-near x q a b =
      held_by (index_f g) g 1 (lit< tt) (index-value g q)
      (λ x. lt (index_f (g - 1)) x ≡ true → lt (index_f g) x ≡ false → ceil_f x ≡ index_f g) (λ m e. ceil-at m e q)
      x (over-zero-lt (index_f (g - 1)) (g - 1) 1 (lit< tt) (index-value (g - 1) (omega arith)) x a) (le_not_lt (index_f g) x b) a (le_not_lt (index_f g) x b)

  round-at : (m : ℕ) (e : ℤ) → g < 8388608 → lt (fin false m e) (index_f (g - 1) ⊕ ½) ≡ false → lt (fin false m e) (index_f g ⊕ ½) ≡ true → round_f (fin false m e) ≡ index_f g
  unfolding round_f of_int
  round-at m e q a b =
      let d = down e in
      let u : ((g - 1) * 2 + 1) * d ≤ m * up e * 2 = ltb-false (m * up e * 2) (((g - 1) * 2 + 1) * d) (sym (under (index_f (g - 1) ⊕ ½) ((g - 1) * 2 + 1) 2 (lit< tt) (half-above (g - 1) (omega arith)) m e) ∙ a) in
      let v : m * up e * 2 < (g * 2 + 1) * d = ltb-true (m * up e * 2) ((g * 2 + 1) * d) (sym (under (index_f g ⊕ ½) (g * 2 + 1) 2 (lit< tt) (half-above g q) m e) ∙ b) in
      let one : (g - 1) * 2 + 1 + 1 ≡ g * 2 = omega arith in
      let s : ((g - 1) * 2 + 1 + 1) * d ≡ ((g - 1) * 2 + 1) * d + 1 * d = add-mul ((g - 1) * 2 + 1) 1 d in
      let s' : g * 2 * d ≡ ((g - 1) * 2 + 1) * d + 1 * d = rw one at s in
      let t : (g * 2 + 1) * d ≡ g * 2 * d + 1 * d = add-mul (g * 2) 1 d in
      let l : g * (d * 2) ≡ g * 2 * d = sym (mul_assoc g d 2) ∙ mul_right_comm g d 2 in
      let k : (g + 1) * (d * 2) ≡ g * (d * 2) + 1 * (d * 2) = add-mul g 1 (d * 2) in
      let r : (m * up e + m * up e + d) / (d * 2) ≡ g = div-eq_of_lt-le (d * 2) (omega arith) (omega arith) in
      ap (λ (z : ℕ). round binary32 false z 1) r

  pub round-near : (x : Float) → g < 8388608 → le (index_f (g - 1) ⊕ ½) x ≡ true → lt x (index_f g ⊕ ½) ≡ true → round_f x ≡ index_f g
  round-near x q a b =
      held_by (index_f g ⊕ ½) (g * 2 + 1) 2 (lit< tt) (half-above g q)
      (λ x. lt x (index_f (g - 1) ⊕ ½) ≡ false → lt x (index_f g ⊕ ½) ≡ true → round_f x ≡ index_f g) (λ m e. round-at m e q)
      x (over-zero-le (index_f (g - 1) ⊕ ½) ((g - 1) * 2 + 1) 2 (lit< tt) (half-above (g - 1) (omega arith)) (omega arith) x a) (lt-asym x (index_f g ⊕ ½) b) (le_not_lt x (index_f (g - 1) ⊕ ½) a) b

-- a whole number within a row stays
pub sample-near : (x last : Float) (g : ℕ) → g ≤ 16777216 → x ≡ index_f g → le (index_f g) last ≡ true → cast_f (clamp_f x 𝟎 last) ≡ g
unfolding clamp_f of_bits
sample-near x last g q e a =
    let low : lt (index_f g) zero_f ≡ false = lt-is (index_f g) zero_f g 1 0 1 (lit< tt) (lit< tt) (index-value g q) (refl, refl) ∙ le-ltb (g * 1) (0 * 1) (omega arith) in
    rw (e, low, le_not_lt last (index_f g) a) (cast-index g q)
