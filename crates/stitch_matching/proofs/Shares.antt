-- An interval has a share of 1 in common with itself, exactly: in floats, too, x + x - x is x, and x / x is 1.
use mathlib.Core.Path.{◌≡◌, refl, sym, ap, ◌∙◌, subst}
use mathlib.Core.Bool.{Bool, true, false, cond, ◌&&◌}
use Prim.Native.Nat.{ℕ, ◌+◌, ◌-◌, ◌*◌, ◌^◌, ◌≤◌, ◌<◌, min, max}
use native.Mathlib.Omega.{arith}
use native.Mathlib.Nat.{le_refl, le_of_eq, le_trans, lt_of_lt_of_le, lt_of_le_of_lt, mul_comm, mul-one, mul-le-mul_right}
use borrow.Author.Tests.{le-leb, lt-leb, leb-true, leb-false, eqb-true}
use lib.Dec.{leb, eqb, lit<, lit≤}
use lib.Ieee.{Float, nan, inf, fin, binary32, lt, le, round, of_int, of_bits, to_bits}
use lib.Ieee.Bits.{of_bits-to_bits}
use lib.Ieee.Scale.{round_same}
use Rattle.numeric.specs.Arith.{◌⊕◌, ◌⊖◌, ◌⊘◌, 𝟎, 𝟏, index_f}
use Rattle.numeric.specs.Numeric.{max_f}
use Rattle.numeric.proofs.Order.{le_not_lt, max-above}
use Rattle.numeric.proofs.Patterns.{pattern, plus-bits}
use Rattle.numeric.proofs.Bounds.{one, one-pos, mag, Num, Rep, AtMost, mag_is, rep, rep-scale, exact, limit_f, limit-num, le-mag, round-at-most, round-at-least, add_is, sub_is, div_is, mag-zero, mag-one, mag-readings, num-zero, num-one}
use Rattle.refusal.proofs.Bools.{all4}
use Rattle.stitch_matching.specs.Matching.{samples, overlap, jaccard_f, enough_common}
use Rattle.std.proofs.Math.Bool.{and-true, and-false}

-- ---- floats with a clear sign

-- two of one value are the same
bits : (x : Float) → Num x → to_bits binary32 x ≡ pattern 23 (mag x)
unfolding mag one
bits nan p = absurd p.clear
bits (inf s) p = absurd p.clear
bits (fin true m e) p = absurd p.clear
bits (fin false m e) p = plus-bits m e

same-value : (x y : Float) → Num x → Num y → mag x ≡ mag y → x ≡ y
same-value x y p q e =
    sym (of_bits-to_bits binary32 x p.held) ∙ ap (of_bits binary32) (bits x p ∙ ap (pattern 23) e ∙ sym (bits y q)) ∙ of_bits-to_bits binary32 y q.held

-- a value that needs no rounding
module _ (n : ℕ) (r : Rep n) where
  rounded-num : Num (round binary32 false n one)
  rounded-num = (round-at-most n one n one-pos r (le_refl (n * one))).0

  rounded-mag : mag (round binary32 false n one) ≡ n
  rounded-mag = mag_is (round binary32 false n one) n (exact n r)

one-rounded : round binary32 false 1 1 ≡ 𝟏
unfolding round of_bits
one-rounded = refl

module _ (x : Float) (p : Num x) where
  rounded : round binary32 false (mag x) one ≡ x
  rounded = same-value (round binary32 false (mag x) one) x (rounded-num (mag x) (rep x p)) p (rounded-mag (mag x) (rep x p))

  -- x + x - x
  twice-less-once : mag x * 2 < 2 ^ 277 → x ⊕ x ⊖ x ≡ x
  twice-less-once h =
      let double : mag x * 2 ≡ mag x + mag x = omega arith in
      let r : Rep (mag x + mag x) = subst Rep double (rep-scale (mag x) 1 (rep x p) h) in
      let sum = add_is x x p p in
      let num : Num (x ⊕ x) = subst Num (sym sum) (rounded-num (mag x + mag x) r) in
      let value : mag (x ⊕ x) ≡ mag x + mag x = ap mag sum ∙ rounded-mag (mag x + mag x) r in
      let less : mag (x ⊕ x) - mag x ≡ mag x = omega arith in
      sub_is (x ⊕ x) x num p (omega arith) ∙ ap (λ (n : ℕ). round binary32 false n one) less ∙ rounded

  -- x / x
  by_itself : 0 < mag x → x ⊘ x ≡ 𝟏
  by_itself h = div_is x x p p h ∙ round_same binary32 false (mag x) (mag x) 1 1 h (lit< tt) (mul_comm (mag x) 1) ∙ one-rounded

-- ---- counts of samples, from 1 to 2 ^ 32 - 1

one-held : Rep one
one-held = subst Rep mag-one (rep 𝟏 num-one)

-- 2 ^ 32
abbrev all_f : Float
all_f = limit_f 0x4f80_0000

all-num : Num all_f
all-num = limit-num 0x4f80_0000 (lit< tt)

far-from-infinite : mag all_f * 2 < 2 ^ 277
unfolding one
far-from-infinite = subst (λ (z : ℕ). z * 2 < 2 ^ 277) (sym mag-readings) (lit< tt)

module _ (n : ℕ) (some : 0 < n) (held : n ≤ 4294967295) where
  at_most : AtMost (index_f n) (mag all_f)
  unfolding of_int
  at_most = round-at-most n 1 (mag all_f) (lit< tt) (rep all_f all-num)
      (le_trans (mul-le-mul_right one (le_trans held (lit≤ {n = 2 ^ 32} tt))) (le_of_eq (mul_comm (2 ^ 32) one ∙ sym mag-readings ∙ sym (mul-one (mag all_f)))))

  at_least : one ≤ mag (index_f n)
  unfolding of_int
  at_least = round-at-least n 1 one (lit< tt) one-held (le_trans (le_of_eq (mul_comm one 1)) (mul-le-mul_right one some)) at_most.0

  not_none : le (index_f n) 𝟎 ≡ false
  not_none = le-mag (index_f n) 𝟎 at_most.0 num-zero ∙ lt-leb (mag (index_f n)) (mag 𝟎) (lt_of_le_of_lt (le_of_eq mag-zero) (lt_of_lt_of_le one-pos at_least))

  not-below : max_f (index_f n) 𝟏 ≡ index_f n
  not-below = max-above (index_f n) 𝟏 (le-mag 𝟏 (index_f n) num-one at_most.0 ∙ le-leb (mag 𝟏) (mag (index_f n)) (le_trans (le_of_eq mag-one) at_least))

  -- of two intervals with these samples, that have them all in common
  share-is-one : (let f = index_f n in cond (le f 𝟎) 𝟎 (f ⊘ max_f (f ⊕ f ⊖ f) 𝟏)) ≡ 𝟏
  share-is-one =
      let twice = twice-less-once (index_f n) at_most.0 (lt_of_le_of_lt (mul-le-mul_right 2 at_most.1) far-from-infinite) in
      rw (not_none, twice, not-below) (by_itself (index_f n) at_most.0 (lt_of_lt_of_le one-pos at_least))

-- ---- an interval and itself

common-same : (lo hi : ℕ) → overlap lo hi lo hi ≡ samples lo hi
unfolding overlap
common-same lo hi = let low : max lo lo ≡ lo = omega arith in let high : min hi hi ≡ hi = omega arith in rw (low, high)

some-samples : (lo hi : ℕ) → lo ≤ hi → 0 < samples lo hi
unfolding samples
some-samples lo hi h = omega arith

held-samples : (lo hi : ℕ) → samples lo hi ≤ 4294967295
unfolding samples
held-samples lo hi = omega arith

jaccard-same : (lo hi : ℕ) → lo ≤ hi → jaccard_f lo hi lo hi ≡ 𝟏
unfolding jaccard_f
jaccard-same lo hi h = rw (common-same lo hi) (share-is-one (samples lo hi) (some-samples lo hi h) (held-samples lo hi))

-- where no more than that is asked, only the samples count
enough-one : (least : ℕ) (share : Float) (lo hi : ℕ) → lo ≤ hi → le share 𝟏 ≡ true → leb least (samples lo hi) ≡ enough_common least share lo hi lo hi
unfolding enough_common
enough-one least share lo hi h k =
    rw (jaccard-same lo hi h, le_not_lt 𝟏 share k, and-false (lt 𝟎 share), common-same lo hi) (sym (and-true (leb least (samples lo hi))))

-- so many samples, if they are not fewer than one more than the ends are apart
one_less : (least lo hi : ℕ) → lo ≤ hi → least ≤ 4294967295 → leb (least - 1) (hi - lo) ≡ leb least (samples lo hi)
unfolding samples
one_less least lo hi h f = go (leb least (samples lo hi)) refl
  where
    go : (b : Bool) → leb least (samples lo hi) ≡ b → leb (least - 1) (hi - lo) ≡ b
    go true e = let k = leb-true least (samples lo hi) e in le-leb (least - 1) (hi - lo) (omega arith)
    go false e = let k = leb-false least (samples lo hi) e in lt-leb (least - 1) (hi - lo) (omega arith)

-- two intervals that are the same
pub enough-same : (least : ℕ) (share : Float) (lo_a hi_a lo_b hi_b : ℕ) → least ≤ 4294967295 → (eqb lo_a lo_b && eqb hi_a hi_b && leb lo_a hi_a && le share 𝟏) ≡ true
    → (lo_a ≤ hi_a) × (leb (least - 1) (hi_a - lo_a) ≡ enough_common least share lo_a hi_a lo_b hi_b)
enough-same least share lo_a hi_a lo_b hi_b f h =
    let same = all4 (eqb lo_a lo_b) h in
    let rise = leb-true lo_a hi_a same.2 in
    (rise, one_less least lo_a hi_a rise f ∙ rw (← eqb-true lo_a lo_b same.0, ← eqb-true hi_a hi_b same.1) (enough-one least share lo_a hi_a rise same.3))
