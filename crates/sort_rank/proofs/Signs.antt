-- Values without their signs: their patterns, and that distances of finite readings are numbers with a clear sign.
use mathlib.Core.Path.{◌≡◌, refl, sym, subst}
use mathlib.Core.Bool.{Bool, true, false, not, ◌&&◌}
use Prim.Native.Nat.{ℕ, zero, suc, ◌+◌, ◌-◌, ◌*◌, ◌/◌, ◌%◌, ◌^◌, ◌≤◌, ◌<◌}
use native.Mathlib.Omega.{arith}
use native.Mathlib.Nat.{mul_right_comm, div-lt_iff_lt-mul, zero-mul, mul-pos, mul-lt-mul_of_pos_right}
use borrow.Author.Tests.{leb-true, le-leb}
use lib.Dec.{T, ltb, leb, eqb, ltb→lt}
use lib.IntN.{ℤ}
use lib.Pow.{pow_pos}
use lib.Ieee.{Float, nan, inf, fin, binary32, up, down, size, is_nan, to_bits, fits, add, sub, neg}
use lib.Ieee.Digits.{size-le}
use lib.Ieee.Fits.{kept-lt, down_pos, and_r, inf-fits, sub-fits}
use lib.Ieee.Scale.{finite}
use Rattle.refusal.proofs.Bools.{clash}
use Rattle.numeric.specs.Numeric.{in_range, abs_f}
use Rattle.numeric.specs.Plain.{Plain}
use Rattle.numeric.proofs.Patterns.{plus-bits, sum_number, minus_plus}

-- ---- finite values with a clear sign have patterns up to infinity's
in_all : (k q : ℕ) → k ≤ 253 → q < 2 ^ 24 → k * 2 ^ 23 + q ≤ 0x7f80_0000
in_all k q a b = omega arith

fewer-to : (z : ℕ) → z ≤ 277 → z - 24 ≤ 253
fewer-to z h = omega arith

below_top : (m : ℕ) (e : ℤ) → T (fits binary32 (fin false m e)) → m * up e < 2 ^ 128 * down e
unfolding fits
below_top zero e h = subst (λ (z : ℕ). z < 2 ^ 128 * down e) (sym (zero-mul (up e))) (mul-pos (pow_pos 128) (down_pos e))
below_top (suc m) e h = ltb→lt (suc m * up e) (2 ^ 128 * down e) (and_r (eqb (suc m % 2) 1 && ltb (suc m) (2 ^ 24) && leb (down e) (2 ^ 149)) _ h)

fin-ranged : (m : ℕ) (e : ℤ) → T (fits binary32 (fin false m e)) → in_range 0x7f80_0000 (fin false m e) ≡ true
unfolding in_range
fin-ranged m e h =
    let n = m * up e * 2 ^ 149 / down e in
    let l : m * up e * 2 ^ 149 < 2 ^ 277 * down e = subst (λ (z : ℕ). m * up e * 2 ^ 149 < z) (mul_right_comm (2 ^ 128) (down e) (2 ^ 149)) (mul-lt-mul_of_pos_right (below_top m e h) (pow_pos 149)) in
    let z : size n ≤ 277 = size-le n 277 ((div-lt_iff_lt-mul (down_pos e)).1 l) in
    le-leb (to_bits binary32 (fin false m e)) 0x7f80_0000
    (subst (λ (w : ℕ). w ≤ 0x7f80_0000) (sym (plus-bits m e)) (in_all (size n - 24) (n / 2 ^ (size n - 24)) (fewer-to (size n) z) (kept-lt 24 n)))

unsigned : (s : Bool) (m : ℕ) (e : ℤ) → T (fits binary32 (fin s m e)) → T (fits binary32 (fin false m e))
unfolding fits
unsigned s zero e h = h
unsigned s (suc m) e h = h

-- a value without its sign, if it is a number
pub plain-abs : (v : Float) → T (fits binary32 v) → is_nan v ≡ false → Plain (abs_f v)
unfolding abs_f is_nan
plain-abs nan h n = clash true refl n
plain-abs (inf s) h n = record { held = inf-fits binary32 false; ranged = unfold in_range to_bits in refl }
plain-abs (fin s m e) h n = let k = unsigned s m e h in record { held = k; ranged = fin-ranged m e k }

-- a difference of two finite floats is a number
pub sub_number : (x y : Float) → T (finite x) → T (finite y) → is_nan (sub binary32 x y) ≡ false
unfolding sub add neg
sub_number nan y p q = absurd p
sub_number (inf s) y p q = absurd p
sub_number (fin s m e) nan p q = absurd q
sub_number (fin s m e) (inf t) p q = absurd q
sub_number (fin s m e) (fin t n d) p q = sum_number binary32 s (m * up e * down d) (not t) (n * up d * down e) (down e * down d)

pub distance-plain : (x y : Float) → T (finite x) → T (finite y) → Plain (abs_f (sub binary32 x y))
distance-plain x y p q = plain-abs (sub binary32 x y) (sub-fits binary32 x y) (sub_number x y p q)

-- ---- the pattern of a value without its sign
pub bits-abs : (x : Float) → T (fits binary32 x) → to_bits binary32 (abs_f x) ≡ to_bits binary32 x % 0x8000_0000
unfolding abs_f in_range
bits-abs nan h = unfold to_bits in refl
bits-abs (inf true) h = unfold to_bits in refl
bits-abs (inf false) h = unfold to_bits in refl
bits-abs (fin s m e) h =
    let w = to_bits binary32 (fin false m e) in
    let l : w ≤ 0x7f80_0000 = leb-true w 0x7f80_0000 (fin-ranged m e (unsigned s m e h)) in
    go s w l
  where
    go : (s : Bool) (w : ℕ) → to_bits binary32 (fin false m e) ≤ 0x7f80_0000 → to_bits binary32 (fin false m e) ≡ to_bits binary32 (fin s m e) % 0x8000_0000
    go false w l = omega arith
    go true w l = rw (minus_plus m e) (omega arith)
