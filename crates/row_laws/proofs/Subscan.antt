-- Where the parabola through three readings has its apex: a number, so that holding it to half a sample gives one from -0.5 to 0.5.
use mathlib.Core.Path.{◌≡◌, refl, sym, ap, ◌∙◌, subst}
use mathlib.Core.Bool.{Bool, true, false, cond}
use Prim.Native.Nat.{ℕ, zero, suc, ◌*◌, ◌%◌, ◌≤◌, ◌<◌}
use native.Mathlib.Nat.{le_trans, le_of_eq, lt_of_lt_of_le, mul_comm, mul_assoc, mul-le-mul_left, mul-pos, zero-mul}
use native.Mathlib.Omega.{arith}
use borrow.Author.Tests.{ltb-false, leb-true, le-leb}
use lib.Dec.{T, ltb, lit<}
use lib.IntN.{ℤ}
use lib.Ieee.{Float, nan, inf, fin, binary32, up, down, lt, is_nan, of_bits, to_bits, fits, mul, div}
use lib.Ieee.Fits.{down_pos}
use Rattle.numeric.specs.Arith.{◌⊕◌, ◌⊖◌, ◌⊗◌, ◌⊘◌, 𝟎, ½, 𝟐}
use Rattle.numeric.specs.Numeric.{abs_f, clamp_f, quad_f, in_range}
use Rattle.refusal.proofs.Bools.{clash}
use Rattle.numeric.proofs.Bounds.{one, mag, Num, Rep, AtMost, value, lt-mag, limit-num, at_most_in, mul-at-most}
use Rattle.row_record.specs.Record.{offset}
use Rattle.row_laws.proofs.Signs.{abs-num, add-size, sub-size}
use Rattle.row_laws.proofs.Heights.{num-half}
use Rattle.numeric.proofs.Patterns.{round_number, minus_plus, zero_number}

-- ---- a rounded fraction is a number, and so are products and quotients of numbers, but for 0 / 0
mul-number : (x y : Float) → Num x → Num (abs_f y) → is_nan (x ⊗ y) ≡ false
unfolding mul abs_f
mul-number nan y p q = absurd p.clear
mul-number (inf s) y p q = absurd p.clear
mul-number (fin s m e) nan p q = absurd q.clear
mul-number (fin s m e) (inf t) p q = absurd q.clear
mul-number (fin s m e) (fin t n d) p q = round_number binary32 _ (m * up e * (n * up d)) (down e * down d)

not-zero : (d : ℤ) → Num (fin false 0 d) → 0 < mag (fin false 0 d) → ⊥
not-zero d p h =
    let v : 0 * up d * one ≡ mag (fin false 0 d) * down d = (value (fin false 0 d) p).1 in
    let z : 0 * up d * one ≡ 0 = ap (λ (k : ℕ). k * one) (zero-mul (up d)) ∙ zero-mul one in
    let g : 0 < mag (fin false 0 d) * down d = mul-pos h (down_pos d) in omega arith

div-number : (x y : Float) → is_nan x ≡ false → Num (abs_f y) → 0 < mag (abs_f y) → is_nan (x ⊘ y) ≡ false
unfolding div abs_f is_nan
div-number nan y n q h = clash true refl n
div-number (inf s) nan n q h = absurd q.clear
div-number (inf s) (inf t) n q h = absurd q.clear
div-number (inf s) (fin t k d) n q h = refl
div-number (fin s m e) nan n q h = absurd q.clear
div-number (fin s m e) (inf t) n q h = absurd q.clear
div-number (fin s m e) (fin t zero d) n q h = absurd (not-zero d q h)
div-number (fin s m e) (fin t (suc k) d) n q h = rw (lib.Dec.eqb-suc-zero k) (round_number binary32 _ (m * up e * down d) (suc k * up d * down e))

-- ---- the parabola, through readings from 0 to top units
abbrev pub tiny : Float
tiny = of_bits binary32 0x2b8c_bccc

pub num-tiny : Num tiny
num-tiny = limit-num 0x2b8c_bccc (lit< tt)

pub mag-tiny : 0 < mag tiny
unfolding mag one of_bits
mag-tiny = lit< tt

pub num-two : Num 𝟐
num-two = limit-num 0x4000_0000 (lit< tt)

mag-two : mag 𝟐 ≡ 2 * one
unfolding mag one of_bits
mag-two = refl

module _ (top : ℕ) (reps : (k : ℕ) → k < 16 → Rep (k * top)) (a b c : Float) (A : AtMost a top) (B : AtMost b top) (C : AtMost c top) where
  size_of : (x : Float) → Num x → Num (abs_f x)
  size_of x p = subst Num (sym (abs-num x p)) p

  mag_of : (x : Float) (n : ℕ) → AtMost x n → mag (abs_f x) ≤ n
  mag_of x n p = le_trans (le_of_eq (ap mag (abs-num x p.0))) p.1

  double : AtMost (𝟐 ⊗ b) (2 * top)
  double =
      mul-at-most 𝟐 b (2 * top) num-two B.0 (reps 2 (omega arith))
      (le_trans (mul-le-mul_left (mag 𝟐) B.1) (le_of_eq (ap (λ (z : ℕ). z * top) mag-two ∙ mul_assoc 2 one top ∙ ap (λ (z : ℕ). 2 * z) (mul_comm one top) ∙ sym (mul_assoc 2 top one))))

  side : AtMost (abs_f (a ⊖ 𝟐 ⊗ b)) (3 * top)
  side = let p = mag_of a top A in let q = mag_of (𝟐 ⊗ b) (2 * top) double in sub-size a (𝟐 ⊗ b) (3 * top) (size_of a A.0) (size_of (𝟐 ⊗ b) double.0) (reps 3 (omega arith)) (omega arith)

  bend : AtMost (abs_f (a ⊖ 𝟐 ⊗ b ⊕ c)) (4 * top)
  bend = let p = side.1 in let q = mag_of c top C in add-size (a ⊖ 𝟐 ⊗ b) c (4 * top) side.0 (size_of c C.0) (reps 4 (omega arith)) (omega arith)

  apart : AtMost (abs_f (a ⊖ c)) (2 * top)
  apart = let p = mag_of a top A in let q = mag_of c top C in sub-size a c (2 * top) (size_of a A.0) (size_of c C.0) (reps 2 (omega arith)) (omega arith)

  pub quad-number : is_nan (quad_f a b c) ≡ false
  unfolding quad_f
  quad-number = go (lt (abs_f (a ⊖ 𝟐 ⊗ b ⊕ c)) tiny) (lt-mag (abs_f (a ⊖ 𝟐 ⊗ b ⊕ c)) tiny bend.0 num-tiny)
    where
      go : (t : Bool) → t ≡ ltb (mag (abs_f (a ⊖ 𝟐 ⊗ b ⊕ c))) (mag tiny) → is_nan (cond t 𝟎 (½ ⊗ (a ⊖ c) ⊘ (a ⊖ 𝟐 ⊗ b ⊕ c))) ≡ false
      go true e = zero_number
      go false e =
          div-number (½ ⊗ (a ⊖ c)) (a ⊖ 𝟐 ⊗ b ⊕ c) (mul-number ½ (a ⊖ c) num-half apart.0) bend.0
          (lt_of_lt_of_le mag-tiny (ltb-false (mag (abs_f (a ⊖ 𝟐 ⊗ b ⊕ c))) (mag tiny) (sym e)))

-- ---- held to half a sample
low_end : offset (of_bits binary32 0xbf00_0000) ≡ true
unfolding of_bits to_bits
low_end = refl

high_end : offset ½ ≡ true
unfolding of_bits to_bits
high_end = refl

abbrev minus_half : Float
minus_half = of_bits binary32 0xbf00_0000

turned-fits : (m : ℕ) (e : ℤ) → T (fits binary32 (fin true m e)) → T (fits binary32 (fin false m e))
unfolding fits
turned-fits zero e h = h
turned-fits (suc m) e h = h

lt-turned : (m : ℕ) (e : ℤ) → lt (fin true m e) minus_half ≡ lt ½ (fin false m e)
unfolding lt of_bits
lt-turned m e = refl

to-half : (m : ℕ) (e : ℤ) → T (fits binary32 (fin false m e)) → lt ½ (fin false m e) ≡ false → to_bits binary32 (fin false m e) ≤ 0x3f00_0000
unfolding in_range
to-half m e f h =
    let p : Num (fin false m e) = record { held = f; clear = tt } in
    leb-true (to_bits binary32 (fin false m e)) 0x3f00_0000
    (at_most_in 0x3f00_0000 (fin false m e) (lit< tt) (p, ltb-false (mag ½) (mag (fin false m e)) (sym (lt-mag ½ (fin false m e) num-half p) ∙ h)))

between : (x : Float) → T (fits binary32 x) → is_nan x ≡ false → lt x minus_half ≡ false → lt ½ x ≡ false → offset x ≡ true
unfolding is_nan lt of_bits
between nan f n g h = clash true refl n
between (inf true) f n g h = clash true refl g
between (inf false) f n g h = clash true refl h
between (fin true m e) f n g h =
    let l = to-half m e (turned-fits m e f) (sym (lt-turned m e) ∙ g) in
    let b = minus_plus m e in le-leb (to_bits binary32 (fin true m e) % 0x8000_0000) 0x3f00_0000 (omega arith)
between (fin false m e) f n g h = let l = to-half m e f h in le-leb (to_bits binary32 (fin false m e) % 0x8000_0000) 0x3f00_0000 (omega arith)

pub clamp-offset : (x : Float) → T (fits binary32 x) → is_nan x ≡ false → offset (clamp_f x minus_half ½) ≡ true
unfolding clamp_f
clamp-offset x f n = go (lt x minus_half) refl (lt ½ x) refl
  where
    go : (s : Bool) → lt x minus_half ≡ s → (t : Bool) → lt ½ x ≡ t → offset (cond s minus_half (cond t ½ x)) ≡ true
    go true d t e = low_end
    go false d true e = high_end
    go false d false e = between x f n d e
