-- The samples next to the crossings, the scans of samples, and the width.
use mathlib.Core.Path.{◌≡◌, refl, sym, ap, ◌∙◌}
use mathlib.Core.Bool.{true}
use mathlib.Core.List.{List, [], ◌∷◌}
use Prim.Native.Nat.{ℕ, zero, suc, ◌-◌, ◌*◌, ◌≤◌, ◌<◌, min, zero-le}
use native.Mathlib.Nat.{sub-le, le_trans, le_of_eq, mul-le-mul_right}
use native.Mathlib.Omega.{arith}
use borrow.Author.Tests.{ltb-true, le-leb}
use lib.Dec.{ltb}
use lib.ListN.{length, get_or}
use lib.Ieee.{Float, le}
use Rattle.numeric.specs.Arith.{◌⊖◌, 𝟎, index_f}
use Rattle.numeric.specs.Numeric.{max_f, cast_f}
use Rattle.refusal.proofs.Bools.{both}
use Rattle.numeric.proofs.Bounds.{one, mag, rep-whole, le-mag, sub-at-most, mag-zero, num-zero}
use Rattle.rounding.specs.Rounding.{floor_f, ceil_f}
use Rattle.rounding.proofs.Guess.{cast-index, sample-near}
use Rattle.row_params.specs.Params.{all_up_to, rising_from, rising}
use Rattle.row_spans.specs.Span.{sample_at, width_of}
use Rattle.row.specs.Row.{scan_at}
use Rattle.row_laws.proofs.Whole.{num-index, mag-index, Between, floor-between, ceil-between, round-between}
use Rattle.row_laws.proofs.Heights.{higher}
use Rattle.row_laws.proofs.Crossings.{Place}
use Rattle.row_params.proofs.Laws.{up-to-at}

-- ---- samples
pub index-le : (j k : ℕ) → j ≤ k → k ≤ 16777216 → le (index_f j) (index_f k) ≡ true
index-le j k l u =
    le-mag (index_f j) (index_f k) (num-index j (omega arith)) (num-index k u)
    ∙ le-leb (mag (index_f j)) (mag (index_f k)) (le_trans (le_of_eq (mag-index j (omega arith))) (le_trans (mul-le-mul_right one l) (le_of_eq (sym (mag-index k u)))))

sample-is : (n j k : ℕ) (x : Float) → k ≤ n - 1 → n ≤ 16384 → (b : Between x j k) → sample_at n x ≡ b.g
sample-is n j k x l s b =
    let u = b.high in sample-near x (index_f (n - 1)) b.g (omega arith) b.is (index-le b.g (n - 1) (omega arith) (omega arith))

module _ (n i : ℕ) (inside : i < n) (short : n ≤ 16384) (lx rx : Float) (L : Place lx 0 i) (R : Place rx i (n - 1)) where
  pub left-sample : sample_at n (floor_f lx) ≤ i
  left-sample = let b = floor-between lx L.num i L.high in le_trans (le_of_eq (sample-is n 0 i (floor_f lx) (omega arith) short b)) b.high

  right-between : Between (ceil_f rx) i (n - 1)
  right-between = ceil-between rx R.num i (n - 1) R.low R.high

  pub right-sample : (i ≤ sample_at n (ceil_f rx)) × (sample_at n (ceil_f rx) ≤ n - 1)
  right-sample =
      let b = right-between in
      let e = sample-is n i (n - 1) (ceil_f rx) (le_of_eq refl) short b in
      (le_trans b.low (le_of_eq (sym e)), le_trans (le_of_eq e) b.high)

  pub in_order : mag lx ≤ mag rx
  in_order = le_trans L.high R.low

  pub width-at-most : width_of lx rx ≤ n - 1
  unfolding width_of
  width-at-most =
      let d = sub-at-most rx lx ((n - 1) * one) R.num L.num (rep-whole (n - 1) (let l : n - 1 < 16777216 = omega arith in l)) in_order (le_trans (sub-le (mag rx) (mag lx)) R.high) in
      let m = higher (rx ⊖ lx) 𝟎 d.0 num-zero in
      let b = round-between (max_f (rx ⊖ lx) 𝟎) m.num (n - 1) (m.most ((n - 1) * one) d.1 (rw mag-zero zero-le)) in
      let u = b.high in
      le_trans (le_of_eq (ap cast_f b.is ∙ cast-index b.g (omega arith))) u

-- ---- scans
rises : (s : ℕ) (ts : List ℕ) → rising_from s ts ≡ true → (j k : ℕ) → j ≤ k → k ≤ length ts → get_or (s ∷ ts) j 0 ≤ get_or (s ∷ ts) k 0
unfolding rising_from
rises s ts h zero zero a b = le_of_eq refl
rises s [] h j (suc k) a b = absurd (omega arith)
rises s ts h (suc j) zero a b = absurd (omega arith)
rises s (t ∷ ts) h zero (suc k) a b =
    let p = both (ltb s t) h in
    let l = ltb-true s t p.0 in
    le_trans (let w : s ≤ t = omega arith in w) (rises t ts p.1 zero k (omega arith) (omega arith))
rises s (t ∷ ts) h (suc j) (suc k) a b = rises t ts (both (ltb s t) h).1 j k (omega arith) (omega arith)

pub scan-at-most : (limit : ℕ) (axis : List ℕ) (k : ℕ) → all_up_to limit axis ≡ true → scan_at axis k ≤ limit
scan-at-most limit axis k h = up-to-at limit axis (min k (length axis - 1)) h

pub scans-rise : (axis : List ℕ) → rising axis ≡ true → (j k : ℕ) → j ≤ k → scan_at axis j ≤ scan_at axis k
unfolding rising
scans-rise [] h j k l = le_of_eq refl
scans-rise (s ∷ ss) h j k l = rises s ss h (min j (length (s ∷ ss) - 1)) (min k (length (s ∷ ss) - 1)) (omega arith) (omega arith)
