-- The whole number nearest to a float below 2 ^ 23, found from its whole halves.
use mathlib.Core.Path.{◌≡◌, refl, sym, ap, ◌∙◌, subst}
use mathlib.Core.Bool.{Bool, true, false, ◌&&◌}
use Prim.Native.Nat.{ℕ, zero, suc, ◌+◌, ◌-◌, ◌*◌, ◌/◌, ◌%◌, ◌^◌, ◌≤◌, ◌<◌, min}
use native.Mathlib.Nat.{le_trans, le_refl, lt_of_lt_of_le, mul-one, mul-pos, mul_assoc, add-div_right, div-div-eq-div-mul, div-lt_iff_lt-mul, mul_right_comm, mul_left_comm, add-mul, not-le_of_lt}
use native.Mathlib.Omega.{arith}
use borrow.Author.Tests.{ltb-true, leb-true, leb-false, le-ltb}
use lib.Dec.{T, ltb, leb, eqb, leb→le, eqb→eq, lit<, lit≤}
use lib.IntN.{ℤ, pos, negsuc}
use lib.Pow.{pow-add, pow_pos, pow-lt, pow_mono, shl_lt}
use lib.Ieee.{Float, nan, inf, fin, binary32, up, down, lt, add, sum, of_int, of_bits, to_unsigned, fits, is_nan}
use lib.Ieee.Fits.{and_l, and_r, down_pos}
use lib.Ieee.Exact.{HasValue, round_exact}
use lib.Ieee.Nearest.{div_same}
use Rattle.refusal.proofs.Bools.{clash}
use Rattle.numeric.specs.Arith.{◌⊕◌, 𝟎, index_f}
use Rattle.numeric.specs.Numeric.{max_f, cast_f}
use Rattle.rounding.specs.Rounding.{round_f}
use Rattle.rounding.proofs.Guess.{cast-index, index-value}
use Rattle.rounding.proofs.Laws.{zero_f, top_f, lt-is, fits-small}
use Rattle.stitch_merging.specs.Merging.{whole}

-- ---- what fits binary32
fits-down : (s : Bool) (m : ℕ) (e : ℤ) → T (fits binary32 (fin s m e)) → down e ≤ 2 ^ 149
unfolding fits
fits-down s zero (pos k) t = lit≤ tt
fits-down s zero (negsuc k) t = le_trans (le_trans (let h : 1 * 2 ^ suc k ≡ 1 = eqb→eq (1 * 2 ^ suc k) 1 t in omega arith) (le_refl 1)) (lit≤ {m = 1} {n = 2 ^ 149} tt)
fits-down s (suc m) e t =
    let a : Bool = eqb (suc m % 2) 1 in
    let b : Bool = ltb (suc m) (2 ^ 24) in
    let c : Bool = leb (down e) (2 ^ 149) in
    let d : Bool = ltb (suc m * up e) (2 ^ 128 * down e) in
    leb→le (down e) (2 ^ 149) (and_r (a && b) c (and_l (a && b && c) d t))

exp-le : (i j : ℕ) → 2 ^ i ≤ 2 ^ j → i ≤ j
exp-le i j h = go (leb i j) refl
  where
    go : (t : Bool) → leb i j ≡ t → i ≤ j
    go true e = leb-true i j e
    go false e = absurd (not-le_of_lt (pow-lt (leb-false i j e)) h)

-- ---- x + x is exact
twice : (p a : ℕ) → (p + p) * a ≡ p * (2 * a)
twice p a = let e1 : (p + p) * a ≡ p * a + p * a = add-mul p p a in let e2 : p * (2 * a) ≡ 2 * (p * a) = mul_left_comm p 2 a in omega arith

wide : (m j : ℕ) → m * 2 ^ j < 2 ^ (24 + 150) → m * 2 ^ j < 2 ^ (149 + 128)
wide m j h = lt_of_lt_of_le h (pow_mono {i = 174} {j = 277} (lit≤ tt))

twice-value : (m : ℕ) (e : ℤ) → T (fits binary32 (fin false m e)) → m * up e / down e < 8388608
    → HasValue (add binary32 (fin false m e) (fin false m e)) false (m * up e * down e + m * up e * down e) (down e * down e)
unfolding add sum
twice-value m (pos k) t h =
    let p = m * 2 ^ k in
    let e1 : m * 2 ^ (k + 150) ≡ p * 2 ^ 150 = ap (λ (z : ℕ). m * z) (pow-add 2 k 150) ∙ sym (mul_assoc m (2 ^ k) (2 ^ 150)) in
    let small : p < 2 ^ 24 = omega arith in
    round_exact binary32 false (p * 1 + p * 1) 1 m (k + 150) (lit< tt) (fits-small false m (pos k) t)
    (wide m (k + 150) (subst (λ (z : ℕ). z < 2 ^ (24 + 150)) (sym e1) (shl_lt 24 150 small)))
    (ap (λ (z : ℕ). (z + z) * 2 ^ 149) (mul-one p) ∙ twice p (2 ^ 149) ∙ sym e1 ∙ sym (mul-one (m * 2 ^ (k + 150))))
twice-value m (negsuc k) t h =
    let d = 2 ^ suc k in
    let k-le : suc k ≤ 149 = exp-le (suc k) 149 (fits-down false m (negsuc k) t) in
    let j = 150 - suc k in
    let js : j + suc k ≡ 150 = omega arith in
    let e1 : 2 ^ j * d ≡ 2 ^ 150 = sym (pow-add 2 j (suc k)) ∙ ap (λ (z : ℕ). 2 ^ z) js in
    let p = m * 1 * d in
    let e2 : m * 2 ^ j * (d * d) ≡ p * 2 ^ 150 =
    sym (mul_assoc (m * 2 ^ j) d d)
    ∙ ap (λ (z : ℕ). z * d) (mul_assoc m (2 ^ j) d ∙ ap (λ (z : ℕ). m * z) e1)
    ∙ mul_right_comm m (2 ^ 150) d
    ∙ ap (λ (z : ℕ). z * d * 2 ^ 150) (sym (mul-one m)) in
    let small : m < 2 ^ 24 = fits-small false m (negsuc k) t in
    round_exact binary32 false (p + p) (d * d) m j (mul-pos (pow_pos (suc k)) (pow_pos (suc k))) small
    (wide m j (lt_of_lt_of_le (shl_lt 24 j small) (pow_mono {i = 24 + j} {j = 174} (omega arith))))
    (twice p (2 ^ 149) ∙ sym e2)

-- ---- the nearest whole number

-- what a float of a known value is, cut to a whole number
cut-value : (y : Float) (a c : ℕ) → 0 < c → HasValue y false a c → cast_f y ≡ min (a / c) 4294967295
unfolding to_unsigned
cut-value nan a c p v = absurd v
cut-value (inf s) a c p v = absurd v
cut-value (fin true m e) a c p v = clash true refl v.0
cut-value (fin false m e) a c p v = ap (λ (z : ℕ). min z 4294967295) (div_same (m * up e) (down e) a c (down_pos e) p v.1)

not-nan : (y : Float) (k : ℕ) → HasValue y false k 1 → is_nan y ≡ false
unfolding is_nan
not-nan nan k v = absurd v
not-nan (inf s) k v = refl
not-nan (fin s m e) k v = refl

-- a whole number is not raised to 0
whole-index : (k : ℕ) → k ≤ 16777216 → cast_f (max_f (index_f k) 𝟎) ≡ k
unfolding max_f of_bits
whole-index k h =
    let v = index-value k h in
    rw (not-nan (index_f k) k v, lt-is (index_f k) zero_f k 1 0 1 (lit< tt) (lit< tt) v (refl, refl) ∙ le-ltb (k * 1) (0 * 1) (omega arith)) (cast-index k h)

pub whole-halves : (x : Float) → T (fits binary32 x) → lt x top_f ≡ true → lt zero_f x ≡ true → (cast_f (x ⊕ x) < 16777216) × ((cast_f (x ⊕ x) + 1) / 2 ≡ whole x)
unfolding lt round_f of_int
whole-halves nan t g h = clash false h refl
whole-halves (inf true) t g h = clash false h refl
whole-halves (inf false) t g h = clash false g refl
whole-halves (fin true m e) t g h = clash false h refl
whole-halves (fin false m e) t g h =
    let a = m * up e in
    let d = down e in
    let dp : 0 < d = down_pos e in
    let under : a * 1 < 1 * 8388608 * d = ltb-true (a * 1) (1 * 8388608 * d) g in
    let q : a / d < 8388608 = (div-lt_iff_lt-mul dp).1 (omega arith) in
    let v : cast_f (add binary32 (fin false m e) (fin false m e)) ≡ min ((a * d + a * d) / (d * d)) 4294967295 =
    cut-value (add binary32 (fin false m e) (fin false m e)) (a * d + a * d) (d * d) (mul-pos dp dp) (twice-value m e t q) in
    let w : (a * d + a * d) / (d * d) ≡ (a + a) / d = div_same (a * d + a * d) (d * d) (a + a) d (mul-pos dp dp) dp (ap (λ (z : ℕ). z * d) (sym (add-mul a a d)) ∙ mul_assoc (a + a) d d) in
    let b : a + a < 16777216 * d = omega arith in
    let l : (a + a) / d < 16777216 = (div-lt_iff_lt-mul dp).1 b in
    let r : (a + a + d) / (d * 2) ≡ ((a + a) / d + 1) / 2 = sym (div-div-eq-div-mul (a + a + d) d 2) ∙ ap (λ (z : ℕ). z / 2) (add-div_right (a + a) dp) in
    let small : (a + a + d) / (d * 2) ≤ 16777216 = omega arith in
    let e : (cast_f (add binary32 (fin false m e) (fin false m e)) + 1) / 2 ≡ (a + a + d) / (d * 2) = omega arith in
    (omega arith, e ∙ sym (whole-index ((a + a + d) / (d * 2)) small))
