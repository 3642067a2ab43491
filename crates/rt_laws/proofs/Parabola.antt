-- Where the parabola through three readings has its apex is a number, whichever readings from plus zero on they are, but for infinity.
use mathlib.Core.Path.{◌≡◌, refl, sym, ap, ◌∙◌, subst}
use mathlib.Core.Bool.{Bool, true, false, cond}
use Prim.Native.Nat.{ℕ, zero, suc, ◌*◌, ◌≤◌, ◌<◌}
use native.Mathlib.Nat.{sub-le, zero-mul, mul-pos}
use native.Mathlib.Omega.{arith}
use borrow.Author.Tests.{ltb-true, ltb-false, lt-ltb}
use lib.Dec.{T, ltb, eqb}
use lib.IntN.{ℤ}
use lib.Ieee.{Float, nan, inf, fin, binary32, up, down, lt, neg, is_nan, of_bits, add, sub, div}
use lib.Ieee.Fits.{down_pos}
use lib.Ieee.Scale.{finite}
use Rattle.numeric.specs.Arith.{◌⊕◌, ◌⊖◌, ◌⊗◌, ◌⊘◌, 𝟎, ½, 𝟐}
use Rattle.numeric.specs.Numeric.{abs_f, clamp_f, quad_f}
use Rattle.refusal.proofs.Bools.{clash}
use Rattle.numeric.proofs.Bounds.{one, mag, Num, rep, value, sub-at-most, mul_is}
use Rattle.numeric.proofs.Patterns.{round_number, sum_number, zero_number}
use Rattle.row_laws.proofs.Signs.{sub-turned, mul-turned}
use Rattle.row_laws.proofs.Heights.{num-half, half_at_most}
use Rattle.row_laws.proofs.Subscan.{tiny, num-tiny, mag-tiny, num-two}

-- ---- finite ones
pub num-finite : (x : Float) → Num x → T (finite x)
num-finite nan p = absurd p.clear
num-finite (inf s) p = absurd p.clear
num-finite (fin s m e) p = tt

turned-finite : (x : Float) → T (finite x) → T (finite (neg x))
unfolding neg
turned-finite nan f = absurd f
turned-finite (inf s) f = absurd f
turned-finite (fin s m e) f = tt

cond-finite : (b : Bool) (x y : Float) → T (finite x) → T (finite y) → T (finite (cond b x y))
cond-finite true x y f g = f
cond-finite false x y f g = g

-- ---- a sum or a difference with one of them is a number
pub add-number : (x y : Float) → is_nan x ≡ false → T (finite y) → is_nan (x ⊕ y) ≡ false
unfolding add is_nan
add-number nan y n f = clash true refl n
add-number (inf s) nan n f = absurd f
add-number (inf s) (inf t) n f = absurd f
add-number (inf s) (fin t k d) n f = refl
add-number (fin s m e) nan n f = absurd f
add-number (fin s m e) (inf t) n f = absurd f
add-number (fin s m e) (fin t k d) n f = sum_number binary32 s (m * up e * down d) t (k * up d * down e) (down e * down d)

sub-number : (x y : Float) → T (finite x) → is_nan y ≡ false → is_nan (x ⊖ y) ≡ false
unfolding sub add neg is_nan
sub-number nan y f n = absurd f
sub-number (inf s) y f n = absurd f
sub-number (fin s m e) nan f n = clash true refl n
sub-number (fin s m e) (inf t) f n = refl
sub-number (fin s m e) (fin true k d) f n = sum_number binary32 s (m * up e * down d) false (k * up d * down e) (down e * down d)
sub-number (fin s m e) (fin false k d) f n = sum_number binary32 s (m * up e * down d) true (k * up d * down e) (down e * down d)

-- ---- a finite one over one that is not below some number above zero
above-zero : (a l b d : ℕ) → a * l ≡ b * d → 0 < b → 0 < d → 0 < a
above-zero zero l b d e p q = let z : b * d ≡ 0 = sym e ∙ zero-mul l in let g : 0 < b * d = mul-pos p q in omega arith
above-zero (suc a) l b d e p q = omega arith

zero-under : (d : ℤ) (y : Float) → Num y → 0 < mag y → lt (fin false 0 d) y ≡ true
unfolding lt
zero-under d nan p h = absurd p.clear
zero-under d (inf s) p h = absurd p.clear
zero-under d (fin true m e) p h = absurd p.clear
zero-under d (fin false m e) p h =
    let a = above-zero (m * up e) one (mag (fin false m e)) (down e) (value (fin false m e) p).1 h (down_pos e) in
    lt-ltb (0 * up d * down e) (m * up e * down d)
    (subst (λ (k : ℕ). k < m * up e * down d) (sym (ap (λ (k : ℕ). k * down e) (zero-mul (up d)) ∙ zero-mul (down e))) (mul-pos a (down_pos d)))

div-number : (x y low : Float) → T (finite x) → is_nan y ≡ false → Num low → 0 < mag low → lt (abs_f y) low ≡ false → is_nan (x ⊘ y) ≡ false
unfolding div abs_f is_nan
div-number nan y low f n p q h = absurd f
div-number (inf s) y low f n p q h = absurd f
div-number (fin s m e) nan low f n p q h = clash true refl n
div-number (fin s m e) (inf t) low f n p q h = refl
div-number (fin s m e) (fin t zero d) low f n p q h = clash (lt (fin false 0 d) low) (zero-under d low p q) h
div-number (fin s m e) (fin t (suc k) d) low f n p q h = rw (lib.Dec.eqb-suc-zero k) (round_number binary32 _ (m * up e * down d) (suc k * up d * down e))

-- ---- the parabola
module _ (a b c : Float) (A : Num a) (B : Num b) (C : Num c) where
  twice : is_nan (𝟐 ⊗ b) ≡ false
  twice = ap is_nan (mul_is 𝟐 b num-two B) ∙ round_number binary32 false (mag 𝟐 * mag b) (one * one)

  bend : is_nan (a ⊖ 𝟐 ⊗ b ⊕ c) ≡ false
  bend = add-number (a ⊖ 𝟐 ⊗ b) c (sub-number a (𝟐 ⊗ b) (num-finite a A) twice) (num-finite c C)

  half : (x y : Float) → Num x → Num y → mag y ≤ mag x → Num (½ ⊗ (x ⊖ y))
  half x y X Y h = (half_at_most (x ⊖ y) (sub-at-most x y (mag x) X Y (rep x X) h (sub-le (mag x) (mag y))).0).0

  apart : T (finite (½ ⊗ (a ⊖ c)))
  apart = go (ltb (mag a) (mag c)) refl
    where
      go : (t : Bool) → ltb (mag a) (mag c) ≡ t → T (finite (½ ⊗ (a ⊖ c)))
      go false e = num-finite (½ ⊗ (a ⊖ c)) (half a c A C (ltb-false (mag a) (mag c) e))
      go true e =
          let l = ltb-true (mag a) (mag c) e in
          let d = sub-at-most c a (mag c) C A (rep c C) (omega arith) (sub-le (mag c) (mag a)) in
          subst (λ (x : Float). T (finite x)) (sym (ap (λ (x : Float). ½ ⊗ x) (sub-turned a c A C l) ∙ mul-turned ½ (c ⊖ a) num-half d.0))
          (turned-finite (½ ⊗ (c ⊖ a)) (num-finite (½ ⊗ (c ⊖ a)) (half c a C A (omega arith))))

  pub quad-number : is_nan (quad_f a b c) ≡ false
  unfolding quad_f
  quad-number = go (lt (abs_f (a ⊖ 𝟐 ⊗ b ⊕ c)) tiny) refl
    where
      go : (t : Bool) → lt (abs_f (a ⊖ 𝟐 ⊗ b ⊕ c)) tiny ≡ t → is_nan (cond t 𝟎 (½ ⊗ (a ⊖ c) ⊘ (a ⊖ 𝟐 ⊗ b ⊕ c))) ≡ false
      go true e = zero_number
      go false e = div-number (½ ⊗ (a ⊖ c)) (a ⊖ 𝟐 ⊗ b ⊕ c) tiny apart bend num-tiny mag-tiny e

-- ---- held to half a frame
pub clamp-finite : (x : Float) → is_nan x ≡ false → T (finite (clamp_f x (of_bits binary32 0xbf00_0000) ½))
unfolding clamp_f lt is_nan of_bits
clamp-finite nan n = clash true refl n
clamp-finite (inf true) n = tt
clamp-finite (inf false) n = tt
clamp-finite (fin s m e) n =
    cond-finite (lt (fin s m e) (of_bits binary32 0xbf00_0000)) (of_bits binary32 0xbf00_0000) _ tt
    (cond-finite (lt ½ (fin s m e)) ½ (fin s m e) tt tt)
