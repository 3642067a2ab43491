-- A smoothed row stays in range. In units of the smallest value (numeric/proofs/Bounds.antt) the weighted sum is at most 2 ^ t times
-- the sum of the weights met, since scaling by a power of two goes through every rounding.
use mathlib.Core.Path.{◌≡◌, refl, sym, ap, ◌∙◌, subst}
use mathlib.Core.Bool.{Bool, true, false, cond}
use mathlib.Core.List.{List, [], ◌∷◌}
use Prim.Native.Nat.{ℕ, zero, suc, ◌+◌, ◌-◌, ◌*◌, ◌/◌, ◌%◌, ◌^◌, ◌≤◌, ◌<◌, zero-le}
use native.Mathlib.Nat.{le_trans, le_of_eq, lt_of_le_of_lt, mul_comm, mul_assoc, mul-le-mul_right, mul-le-mul_left, suc-mul, one-mul, add-le-add, le-suc, lt_of_lt_of_le}
use native.Mathlib.Omega.{arith}
use borrow.Author.Tests.{ltb-true, leb-true, eqb-true}
use lib.Dec.{T, leb, eqb, lit<, lit≤}
use lib.Pow.{pow-add, pow_mono, shl_lt}
use lib.ListN.{length}
use lib.Ieee.{Float, binary32, lt, to_bits, of_bits, fits}
use lib.Ieee.Bits.{of_bits-to_bits, of_bits-fits}
use lib.Ieee.Fits.{cond-fits, div-fits}
use Rattle.refusal.proofs.Bools.{both, all4}
use Rattle.limits.specs.Limits.{max_weights, max_weight, max_reading}
use Rattle.numeric.proofs.Patterns.{range_at}
use Rattle.numeric.proofs.Bounds.{one, mag, Num, Rep, AtMost, one-pos, rep, rep-scale, rep-whole, add-at-most, add-at-least, mul-at-most, div-at-most, add-scaled, lt-mag, in-at-most, at_most_in, all-range, mag-zero, mag-one, mag-readings, num-zero, num-one}
use Rattle.numeric.specs.Arith.{◌⊕◌, ◌⊗◌, ◌⊘◌, 𝟎, 𝟏, at}
use Rattle.numeric.specs.Numeric.{all_in_range}
use Rattle.numeric.specs.Plain.{AllFit}
use Rattle.row_smoothing.specs.Smoothing.{sum_from, normalised, radius, meets, weighted, met, smoothed_at, smoothed, sound_weights}
use Rattle.row_smoothing.specs.InRange.{SmoothedInRange}
use Rattle.row_smoothing.proofs.Laws.{at-tab, tab-map, smoothed-length, normalised-length}

-- each from 0 to n units
abbrev pub AllAtMost : List Float → ℕ → Type 0
AllAtMost y n = (i : ℕ) → i < length y → AtMost (at y i) n

-- ---- the sum of the weights is a number, and at least each of them
record Total (a s : Float) (ws : List Float) : Type 0 where
  all : Num s
  start : mag a ≤ mag s
  each : (i : ℕ) → i < length ws → mag (at ws i) ≤ mag s

room : (j n : ℕ) → j + suc n < 2 ^ 24 → (suc j < 2 ^ 24) × (suc j + n < 2 ^ 24)
room j n h = (omega arith, omega arith)

total : (ws : List Float) (a : Float) (j : ℕ) → AtMost a (j * one) → AllAtMost ws one → j + length ws < 2 ^ 24 → Total a (sum_from a ws) ws
unfolding sum_from
total [] a j p h r = record { all = p.0; start = le_of_eq refl; each = λ i k. absurd (omega arith) }
total (w ∷ ws) a j p h r =
    let q = h 0 (omega arith) in
    let m = room j (length ws) r in
    let s : AtMost (a ⊕ w) (suc j * one) =
    add-at-most a w (suc j * one) p.0 q.0 (rep-whole (suc j) m.0) (le_trans (add-le-add p.1 q.1) (le_of_eq (sym (suc-mul j one)))) in
    let g = add-at-least a w p.0 q.0 s.0 in
    let t = total ws (a ⊕ w) (suc j) s (λ i k. h (suc i) (omega arith)) m.1 in
    record { all = t.all; start = le_trans g.0 t.start; each = each g t }
  where
    each : (mag a ≤ mag (a ⊕ w)) × (mag w ≤ mag (a ⊕ w)) → Total (a ⊕ w) (sum_from (a ⊕ w) ws) ws → (i : ℕ) → i < suc (length ws) → mag (at (w ∷ ws) i) ≤ mag (sum_from (a ⊕ w) ws)
    each g t zero k = le_trans g.1 t.start
    each g t (suc i) k = t.each i (omega arith)

-- ---- the weighted sum, against the weights that it met
record Bounded (a m : Float) (k t : ℕ) : Type 0 where
  sum : AtMost a (mag m * 2 ^ t)
  norm : AtMost m (k * one)

module _ (t : ℕ) (small : t ≤ 100) where
  scaled_under : (m k : ℕ) → m ≤ k * one → k < 2 ^ 24 → m * 2 ^ t < 2 ^ 277
  unfolding one
  scaled_under m k h l =
      lt_of_le_of_lt (mul-le-mul_right (2 ^ t) h)
      (lt_of_le_of_lt (le_of_eq (mul_assoc k (2 ^ 149) (2 ^ t) ∙ ap (λ (z : ℕ). k * z) (sym (pow-add 2 149 t))))
      (lt_of_lt_of_le (shl_lt 24 (149 + t) l) (pow_mono {i = 24 + (149 + t)} {j = 277} (omega arith))))

  bounded : (u y : List Float) → AllAtMost u one → AllAtMost y (one * 2 ^ t) → length u < 2 ^ 24
      → (i k : ℕ) → k ≤ length u → Bounded (weighted u y i k) (met u (length y) i k) k t
  unfolding weighted met
  bounded u y p q l i zero h = record { sum = (num-zero, rw mag-zero zero-le); norm = (num-zero, rw mag-zero zero-le) }
  bounded u y p q l i (suc k) h = go (meets (length y) (radius u) i k) refl (bounded u y p q l i k (omega arith))
    where
      go : (b : Bool) → meets (length y) (radius u) i k ≡ b → Bounded (weighted u y i k) (met u (length y) i k) k t
          → Bounded (cond b (weighted u y i k ⊕ at u k ⊗ at y (i + k - radius u)) (weighted u y i k)) (cond b (met u (length y) i k ⊕ at u k) (met u (length y) i k)) (suc k) t
      go true e b =
          let w = at u k in
          let v = at y (i + k - radius u) in
          let W = p k (omega arith) in
          let R = q (i + k - radius u) (ltb-true _ _ (both (leb (radius u) (i + k)) e).1) in
          let K : suc k < 2 ^ 24 = omega arith in
          let O : AtMost w (1 * one) = (W.0, le_trans W.1 (le_of_eq (sym (one-mul one)))) in
          let P : AtMost (w ⊗ v) (mag w * 2 ^ t) =
          mul-at-most w v (mag w * 2 ^ t) W.0 R.0 (rep-scale (mag w) t (rep w W.0) (scaled_under (mag w) 1 O.1 (lit< tt)))
          (le_trans (mul-le-mul_left (mag w) R.1) (le_of_eq (ap (λ (z : ℕ). mag w * z) (mul_comm one (2 ^ t)) ∙ sym (mul_assoc (mag w) (2 ^ t) one)))) in
          let N : AtMost (met u (length y) i k ⊕ w) (suc k * one) =
          add-at-most (met u (length y) i k) w (suc k * one) b.norm.0 W.0 (rep-whole (suc k) K) (le_trans (add-le-add b.norm.1 W.1) (le_of_eq (sym (suc-mul k one)))) in
          record {
            sum =
                add-scaled (weighted u y i k) (w ⊗ v) (met u (length y) i k) w t b.sum.0 P.0 b.norm.0 W.0 b.sum.1 P.1 N.0
                (scaled_under (mag (met u (length y) i k ⊕ w)) (suc k) N.1 K);
            norm = N;
          }
      go false e b = record { sum = b.sum; norm = (b.norm.0, le_trans b.norm.1 (mul-le-mul_right one (le-suc k))) }

  -- a smoothed sample
  pub mean : (u y : List Float) → AllAtMost u one → AllAtMost y (one * 2 ^ t) → length u < 2 ^ 24 → (i : ℕ) → AtMost (smoothed_at u y i) (one * 2 ^ t)
  unfolding smoothed_at
  mean u y p q l i = go (lt 𝟎 (met u (length y) i (length u))) refl
    where
      a : Float
      a = weighted u y i (length u)

      m : Float
      m = met u (length y) i (length u)

      b : Bounded a m (length u) t
      b = bounded u y p q l i (length u) (le_of_eq refl)

      go : (c : Bool) → lt 𝟎 m ≡ c → AtMost (cond c (a ⊘ m) 𝟎) (one * 2 ^ t)
      go true e =
          div-at-most a m (one * 2 ^ t) b.sum.0 b.norm.0
          (subst (λ (z : ℕ). z < mag m) mag-zero (ltb-true (mag 𝟎) (mag m) (sym (lt-mag 𝟎 m num-zero b.norm.0) ∙ e)))
          (rep-scale one t (subst Rep mag-one (rep 𝟏 num-one)) (scaled_under one 1 (le_of_eq (sym (one-mul one))) (lit< tt)))
          (le_trans (mul-le-mul_right one b.sum.1) (le_of_eq (mul_comm (mag m * 2 ^ t) one ∙ ap (λ (z : ℕ). one * z) (mul_comm (mag m) (2 ^ t)) ∙ sym (mul_assoc one (2 ^ t) (mag m)))))
      go false e = (num-zero, rw mag-zero zero-le)

-- ---- the weights divided by their sum are at most 1
record Sound (ws : List Float) : Type 0 where
  count : length ws ≤ max_weights
  some : length ws / 2 < length ws
  ranged : all_in_range max_weight ws ≡ true
  middle : to_bits binary32 (at ws (length ws / 2)) ≡ max_weight

sound : (ws : List Float) → sound_weights ws ≡ true → Sound ws
unfolding sound_weights
sound ws h =
    let a = all4 (eqb (length ws % 2) 1) h in
    let n : length ws % 2 ≡ 1 = eqb-true (length ws % 2) 1 a.0 in
    record { count = leb-true (length ws) max_weights a.1; some = omega arith; ranged = a.2; middle = eqb-true _ _ a.3 }

pub weights-at-most : (ws : List Float) → sound_weights ws ≡ true → AllFit ws → AllAtMost (normalised ws) one
unfolding normalised
weights-at-most ws h f i k =
    let s = sound ws h in
    let n : i < length ws = subst (λ (z : ℕ). i < z) (normalised-length ws) k in
    let a : AllAtMost ws one = λ j l. subst (AtMost (at ws j)) mag-one (in-at-most max_weight (at ws j) (lit< tt) (f j l) (range_at max_weight ws j s.ranged l)) in
    let t : Total 𝟎 (sum_from 𝟎 ws) ws = total ws 𝟎 0 (num-zero, rw mag-zero zero-le) a (omega arith) in
    let m : at ws (length ws / 2) ≡ 𝟏 = sym (of_bits-to_bits binary32 (at ws (length ws / 2)) (f (length ws / 2) s.some)) ∙ ap (of_bits binary32) s.middle in
    let o : one ≤ mag (sum_from 𝟎 ws) = le_trans (le_of_eq (sym (ap mag m ∙ mag-one))) (t.each (length ws / 2) s.some) in
    let e : at (normalised ws) i ≡ at ws i ⊘ sum_from 𝟎 ws = ap (λ (l : List Float). at l i) (tab-map (λ w. w ⊘ sum_from 𝟎 ws) ws) ∙ at-tab (length ws) (λ j. at ws j ⊘ sum_from 𝟎 ws) i n in
    subst (λ (x : Float). AtMost x one) (sym e)
    (div-at-most (at ws i) (sum_from 𝟎 ws) one (a i n).0 t.all (lt_of_lt_of_le one-pos o) (subst Rep mag-one (rep 𝟏 num-one))
    (le_trans (mul-le-mul_right one (t.each i n)) (le_of_eq (mul_comm (mag (sum_from 𝟎 ws)) one))))

-- a row from 0 to 2 ^ t stays so
pub smoothed-at-most : (t : ℕ) → t ≤ 100 → (ws z : List Float) → sound_weights ws ≡ true → AllFit ws → AllAtMost z (one * 2 ^ t)
    → AllAtMost (smoothed ws z) (one * 2 ^ t)
unfolding smoothed
smoothed-at-most t small ws z h f q i k =
    let u = normalised ws in
    let c : length u ≤ max_weights = le_trans (le_of_eq (normalised-length ws)) (sound ws h).count in
    let n : i < length z = subst (λ (x : ℕ). i < x) (smoothed-length ws z) k in
    subst (λ (x : Float). AtMost x (one * 2 ^ t)) (sym (at-tab (length z) (smoothed_at u z) i n))
    (mean t small u z (weights-at-most ws h f) q (omega arith) i)

pub smoothed-in-range : SmoothedInRange
smoothed-in-range ws z h f g r =
    let q : AllAtMost z (one * 2 ^ 32) = λ j l. subst (AtMost (at z j)) mag-readings (in-at-most max_reading (at z j) (lit< tt) (g j l) (range_at max_reading z j r l)) in
    all-range max_reading (smoothed ws z) (λ i k.
    at_most_in max_reading (at (smoothed ws z) i) (lit< tt)
    (subst (AtMost (at (smoothed ws z) i)) (sym mag-readings) (smoothed-at-most 32 (lit≤ tt) ws z h f q i k)))

-- whatever the weights, a smoothed row is one of binary32 values
pub smoothed-fits : (ws z : List Float) → AllFit (smoothed ws z)
unfolding smoothed smoothed_at
smoothed-fits ws z i k =
    let n : i < length z = subst (λ (x : ℕ). i < x) (smoothed-length ws z) k in
    let u = normalised ws in
    let m = met u (length z) i (length u) in
    let a = weighted u z i (length u) in
    subst (λ (x : Float). T (fits binary32 x)) (sym (at-tab (length z) (smoothed_at u z) i n))
    (cond-fits binary32 (lt 𝟎 m) (a ⊘ m) 𝟎 (div-fits binary32 a m) (of_bits-fits binary32 0))
