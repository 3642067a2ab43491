-- Edges and centres of a sound scale are exact: no rounding takes place.
use mathlib.Core.Path.{◌≡◌, sym, ap, ◌∙◌, subst}
use mathlib.Core.Bool.{Bool, true, false}
use Prim.Native.Nat.{ℕ, ◌+◌, ◌*◌, ◌^◌, ◌≤◌, ◌<◌}
use native.Mathlib.Nat.{mul-one, one-mul, add-mul, mul_assoc, mul_comm, mul_right_comm, mul-pos, pow-suc, eq_of_mul-eq-mul_right, lt_of_lt_of_le}
use native.Mathlib.Omega.{arith}
use lib.Dec.{lit≤}
use lib.Pow.{pow_mono, shl_lt}
use lib.Ieee.{Float, nan, inf, fin, binary32, up, down, round, sum, add, mul, of_bits, of_int}
use lib.Ieee.Exact.{HasValue, round_exact}
use lib.Ieee.Back.{round_whole}
use lib.Ieee.Fits.{down_pos}
use Rattle.limits.specs.Limits.{max_tof_bound}
use Rattle.numeric.specs.Arith.{◌⊕◌, ◌⊗◌, ½, index_f}
use Rattle.tof_scale.specs.Tof.{edge, center_f}
use Rattle.tof_scale.specs.Exact.{EdgeExact, CenterExact}
use Rattle.tof_scale.proofs.TofLaws.{edges-held, upper-edge}

-- a fraction that is q times a power of 2, for a q of at most 24 binary digits
rounds : (num den q j : ℕ) → 0 < den → q < 2 ^ 24 → j ≤ 149 → num * 2 ^ 149 ≡ q * 2 ^ j * den → HasValue (round binary32 false num den) false num den
rounds num den q j p s l e =
    round_exact binary32 false num den q j p s (lt_of_lt_of_le (shl_lt 24 j s) (pow_mono {i = 24 + j} {j = 149 + 128} (omega arith))) e

-- the same value over another divisor
reduced : (x : Float) (num den n c : ℕ) → 0 < den → num * c ≡ n * den → HasValue x false num den → HasValue x false n c
reduced nan num den n c p e v = v
reduced (inf t) num den n c p e v = v
reduced (fin t m e) num den n c p h v = (
  v.0,
  eq_of_mul-eq-mul_right den p (m * up e * c) (n * down e)
      (mul_right_comm (m * up e) c den
      ∙ ap (λ (z : ℕ). z * c) v.1
      ∙ mul_right_comm num (down e) c
      ∙ ap (λ (z : ℕ). z * down e) h
      ∙ mul_right_comm n den (down e)),
)

whole_sum : (x y : Float) (a b : ℕ) → HasValue x false a 1 → HasValue y false b 1 → a + b < 2 ^ 24 → HasValue (x ⊕ y) false (a + b) 1
unfolding add sum
whole_sum nan y a b v w h = elim v [ ]
whole_sum (inf _) y a b v w h = elim v [ ]
whole_sum (fin true m e) y a b v w h = absurd (mathlib.Core.Bool.true≢false v.0)
whole_sum (fin false m e) nan a b v w h = elim w [ ]
whole_sum (fin false m e) (inf _) a b v w h = elim w [ ]
whole_sum (fin false m e) (fin true n d) a b v w h = absurd (mathlib.Core.Bool.true≢false w.0)
whole_sum (fin false m e) (fin false n d) a b v w h =
    let k = down e * down d in
    let p : 0 < k = mul-pos (down_pos e) (down_pos d) in
    let l : m * up e * down d ≡ a * k = ap (λ (z : ℕ). z * down d) (sym (mul-one (m * up e)) ∙ v.1) ∙ mul_assoc a (down e) (down d) in
    let r : n * up d * down e ≡ b * k = ap (λ (z : ℕ). z * down e) (sym (mul-one (n * up d)) ∙ w.1) ∙ mul_right_comm b (down d) (down e) ∙ mul_assoc b (down e) (down d) in
    let s : m * up e * down d + n * up d * down e ≡ (a + b) * k = ap (λ (z : ℕ). z + n * up d * down e) l ∙ ap (λ (z : ℕ). a * k + z) r ∙ sym (add-mul a b k) in
    subst (λ (z : ℕ). HasValue (round binary32 false z k) false (a + b) 1) (sym s)
    (reduced (round binary32 false ((a + b) * k) k) ((a + b) * k) k (a + b) 1 p (mul-one ((a + b) * k)) (rounds ((a + b) * k) k (a + b) 149 p h (lit≤ tt) (mul_right_comm (a + b) k (2 ^ 149))))

whole-half : (x : Float) (a : ℕ) → HasValue x false a 1 → a < 2 ^ 24 → HasValue (½ ⊗ x) false a 2
unfolding mul of_bits
whole-half nan a v h = elim v [ ]
whole-half (inf _) a v h = elim v [ ]
whole-half (fin true m e) a v h = absurd (mathlib.Core.Bool.true≢false v.0)
whole-half (fin false m e) a v h =
    let d = down e in
    let p : 0 < 2 * d = let q : 0 < d = down_pos e in omega arith in
    let n : 1 * (m * up e) ≡ a * d = one-mul (m * up e) ∙ sym (mul-one (m * up e)) ∙ v.1 in
    let f : a * d * 2 ^ 149 ≡ a * 2 ^ 148 * (2 * d) =
    mul_right_comm a d (2 ^ 149)
    ∙ ap (λ (z : ℕ). a * z * d) (pow-suc 2 148)
    ∙ ap (λ (z : ℕ). z * d) (sym (mul_assoc a (2 ^ 148) 2))
    ∙ mul_assoc (a * 2 ^ 148) 2 d in
    subst (λ (z : ℕ). HasValue (round binary32 false z (2 * d)) false a 2) (sym n)
    (reduced (round binary32 false (a * d) (2 * d)) (a * d) (2 * d) a 2 p (mul_assoc a d 2 ∙ ap (λ (z : ℕ). a * z) (mul_comm d 2)) (rounds (a * d) (2 * d) a 148 p h (lit≤ tt) f))

pub edge-value : EdgeExact
unfolding of_int
edge-value n h = round_whole binary32 false n (omega arith)

-- the centre of a bin is half the sum of its edges
pub center-exact : CenterExact
unfolding center_f
center-exact s h i b =
    let u = edges-held s h i b in
    let e = upper-edge s i in
    let l : edge s i ≤ max_tof_bound = omega arith in
    let t : edge s i + edge s (i + 1) < 2 ^ 24 = omega arith in
    whole-half (index_f (edge s i) ⊕ index_f (edge s (i + 1))) (edge s i + edge s (i + 1))
    (whole_sum (index_f (edge s i)) (index_f (edge s (i + 1))) (edge s i) (edge s (i + 1)) (edge-value (edge s i) l) (edge-value (edge s (i + 1)) u) t)
    t
