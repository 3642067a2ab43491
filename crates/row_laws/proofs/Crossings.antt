-- Where a row crosses a height, next to an apex that has a reading not above the height on that side: between the apex and the row's
-- end. In units of the smallest value (numeric/proofs/Bounds.antt).
use mathlib.Core.Path.{◌≡◌, refl, sym, ap, ap₂, ◌∙◌, subst}
use mathlib.Core.Bool.{Bool, true, false, cond}
use mathlib.Core.List.{List}
use mathlib.Core.Logic.{⊎_elim}
use Prim.Native.Nat.{ℕ, zero, suc, ◌+◌, ◌-◌, ◌*◌, ◌≤◌, ◌<◌, zero-le}
use native.Mathlib.Nat.{le_trans, le_of_eq, mul_comm, mul-le-mul_right, add-mul, one-mul, add-le-add, eq-or-lt_of_le, add-zero}
use native.Mathlib.Numerals.{sub-one}
use native.Mathlib.Omega.{arith}
use borrow.Author.Tests.{ltb-true, ltb-false, le-ltb}
use lib.Dec.{ltb, lit<, lit≤}
use lib.ListN.{length}
use lib.Ieee.{Float, binary32, lt, ne, round}
use Rattle.numeric.specs.Arith.{◌⊕◌, ◌⊖◌, ◌⊘◌, 𝟎, 𝟏, index_f, at}
use Rattle.refusal.proofs.Bools.{clash}
use Rattle.numeric.proofs.Bounds.{one, mag, Num, Rep, AtMost, one-pos, rep, rep_at, rep-whole, lt-mag, round-order, round-at-least, sub_is, add-at-most, add-at-least, sub-at-most, div-at-most, mag-zero, mag-one, num-zero, num-one}
use Rattle.row_apex.specs.Apex.{part_way, left_foot, right_foot, left_crossing, right_crossing}
use Rattle.row_apex.proofs.Laws.{left-on, left-stop, right-on, right-stop, left-above, right-above}
use Rattle.row_laws.proofs.Signs.{sub-turned, div-turned}
use Rattle.row_laws.proofs.Whole.{num-index, mag-index}

-- ---- the reading at a foot is not above the height
module _ (y : List Float) (h : Float) where
  left-low : (i k : ℕ) → k ≤ i → lt h (at y k) ≡ false → lt h (at y (left_foot y h i)) ≡ false
  left-low zero k l e =
      let z : k ≡ 0 = omega arith in
      let f : lt h (at y 0) ≡ false = rw z at e in rw (left-stop y h 0 f) f
  left-low (suc i) k l e = go (left-low i k) (lt h (at y (suc i))) refl
    where
      go : (k ≤ i → lt h (at y k) ≡ false → lt h (at y (left_foot y h i)) ≡ false) → (t : Bool) → lt h (at y (suc i)) ≡ t → lt h (at y (left_foot y h (suc i))) ≡ false
      go again false t = ap (λ (w : ℕ). lt h (at y w)) (left-stop y h (suc i) t) ∙ t
      go again true t =
          let f : left_foot y h (suc i) ≡ left_foot y h i = rw sub-one at (left-on y h (suc i) (omega arith) t) in
          ap (λ (w : ℕ). lt h (at y w)) f
          ∙ ⊎_elim (λ (s : k ≡ suc i). clash (lt h (at y (suc i))) t (rw s at e)) (λ (s : k < suc i). again (omega arith) e) (eq-or-lt_of_le l)

  right-low-by : (n i : ℕ) → i + n < length y → lt h (at y (i + n)) ≡ false → lt h (at y (right_foot y h i)) ≡ false
  right-low-by zero i l e = let f : lt h (at y i) ≡ false = rw add-zero at e in ap (λ (w : ℕ). lt h (at y w)) (right-stop y h i (omega arith) f) ∙ f
  right-low-by (suc n) i l e = go (right-low-by n (i + 1)) (lt h (at y i)) refl
    where
      go : (i + 1 + n < length y → lt h (at y (i + 1 + n)) ≡ false → lt h (at y (right_foot y h (i + 1))) ≡ false) → (t : Bool) → lt h (at y i) ≡ t → lt h (at y (right_foot y h i)) ≡ false
      go again false t = ap (λ (w : ℕ). lt h (at y w)) (right-stop y h i (omega arith) t) ∙ t
      go again true t =
          let s : i + suc n ≡ i + 1 + n = omega arith in
          ap (λ (w : ℕ). lt h (at y w)) (right-on y h i (omega arith) t) ∙ again (omega arith) (rw s at e)

  right-low : (i k : ℕ) → i ≤ k → k < length y → lt h (at y k) ≡ false → lt h (at y (right_foot y h i)) ≡ false
  right-low i k a b e = let s : k ≡ i + (k - i) = omega arith in right-low-by (k - i) i (omega arith) (rw s at e)

-- ---- a difference over a larger one
ratio : (p q r s : Float) → Num p → Num q → Num r → Num s → mag q ≤ mag p → mag s < mag r → mag p - mag q ≤ mag r - mag s → AtMost ((p ⊖ q) ⊘ (r ⊖ s)) one
ratio p q r s P Q R S a b c =
    let m = mag p - mag q in
    let n = mag r - mag s in
    let l : mag s ≤ mag r = omega arith in
    let e = sub_is p q P Q a in
    let f = sub_is r s R S l in
    let d = sub-at-most r s (mag r) R S (rep r R) l (omega arith) in
    let t = subst Num f d.0 in
    let o = round-order m one n one one-pos one-pos (mul-le-mul_right one c) t in
    let u : AtMost (p ⊖ q) (mag (r ⊖ s)) = subst (λ (x : Float). AtMost x (mag (r ⊖ s))) (sym e) (subst (λ (x : Float). AtMost (round binary32 false m one) (mag x)) (sym f) o) in
    let g : 1 ≤ mag (r ⊖ s) = subst (λ (x : Float). 1 ≤ mag x) (sym f) (round-at-least n one 1 one-pos (rep_at 1 0 (lit< tt) (lit≤ tt)) (mul-le-mul_right one (let k : 1 ≤ n = omega arith in k)) t) in
    div-at-most (p ⊖ q) (r ⊖ s) one u.0 d.0 g (subst Rep mag-one (rep 𝟏 num-one)) (le_trans (mul-le-mul_right one u.1) (le_of_eq (mul_comm (mag (r ⊖ s)) one)))

-- the share of the way to a height that lies between two readings
module _ (h a b : Float) (H : Num h) (A : Num a) (B : Num b) where
  share-by : AtMost ((h ⊖ a) ⊘ (b ⊖ a)) one → AtMost (part_way h a b) one
  unfolding part_way
  share-by q = go (ne b a)
    where
      go : (t : Bool) → AtMost (cond t ((h ⊖ a) ⊘ (b ⊖ a)) 𝟎) one
      go true = q
      go false = (num-zero, rw mag-zero zero-le)

  share_up : mag a ≤ mag h → mag h < mag b → AtMost (part_way h a b) one
  share_up l u = share-by (ratio h a b a H A B A l (omega arith) (omega arith))

  share-down : mag b ≤ mag h → mag h < mag a → AtMost (part_way h a b) one
  share-down l u =
      share-by
      (subst (λ (x : Float). AtMost x one) (sym (ap₂ ◌⊘◌ (sub-turned h a H A u) (sub-turned b a B A (omega arith)) ∙ div-turned (a ⊖ h) (a ⊖ b)))
      (ratio a h a b A H A B (omega arith) (omega arith) (omega arith)))

-- ---- a place from sample j to sample k
pub record Place (x : Float) (j k : ℕ) : Type 0 where
  pub num : Num x
  pub low : j * one ≤ mag x
  pub high : mag x ≤ k * one

place_at : (j w k : ℕ) → j ≤ w → w ≤ k → k ≤ 16777216 → Place (index_f w) j k
place_at j w k a b c =
    let m = mag-index w (omega arith) in
    record {
      num = num-index w (omega arith);
      low = le_trans (mul-le-mul_right one a) (le_of_eq (sym m));
      high = le_trans (le_of_eq m) (mul-le-mul_right one b);
    }

place_in : (j w k : ℕ) (t : Float) → j ≤ w → w < k → k < 16777216 → AtMost t one → Place (index_f w ⊕ t) j k
place_in j w k t a b c T =
    let m = mag-index w (omega arith) in
    let n = num-index w (omega arith) in
    let s = add-at-most (index_f w) t ((w + 1) * one) n T.0 (rep-whole (w + 1) (let l : w + 1 < 16777216 = omega arith in l)) (le_trans (add-le-add (le_of_eq m) T.1) (le_of_eq (ap (λ (z : ℕ). w * one + z) (sym (one-mul one)) ∙ sym (add-mul w 1 one)))) in
    record {
      num = s.0;
      low = le_trans (mul-le-mul_right one a) (le_trans (le_of_eq (sym m)) (add-at-least (index_f w) t n T.0 s.0).0);
      high = le_trans s.1 (mul-le-mul_right one (let l : w + 1 ≤ k = omega arith in l));
    }

module _ (y : List Float) (nums : (k : ℕ) → k < length y → Num (at y k)) (short : length y ≤ 16384) (h : Float) (H : Num h) (i : ℕ) (inside : i < length y) where
  above : (k : ℕ) → k < length y → lt h (at y k) ≡ true → mag h < mag (at y k)
  above k l e = ltb-true (mag h) (mag (at y k)) (sym (lt-mag h (at y k) H (nums k l)) ∙ e)

  not-above : (k : ℕ) → k < length y → lt h (at y k) ≡ false → mag (at y k) ≤ mag h
  not-above k l e = ltb-false (mag h) (mag (at y k)) (sym (lt-mag h (at y k) H (nums k l)) ∙ e)

  lower : (k : ℕ) → k < length y → mag (at y k) ≤ mag h → lt h (at y k) ≡ false
  lower k l e = lt-mag h (at y k) H (nums k l) ∙ le-ltb (mag h) (mag (at y k)) e

  pub left-place : (k : ℕ) → k ≤ i → mag (at y k) ≤ mag h → Place (left_crossing y h i) 0 i
  unfolding left_crossing
  left-place k l e = go (ltb (left_foot y h i) i) refl
    where
      go : (t : Bool) → ltb (left_foot y h i) i ≡ t → Place (cond t (index_f (left_foot y h i) ⊕ part_way h (at y (left_foot y h i)) (at y (left_foot y h i + 1))) (index_f (left_foot y h i))) 0 i
      go true t =
          let v : left_foot y h i < i = ltb-true (left_foot y h i) i t in
          place_in 0 (left_foot y h i) i _ (omega arith) v (omega arith)
          (share_up h (at y (left_foot y h i)) (at y (left_foot y h i + 1)) H (nums (left_foot y h i) (omega arith)) (nums (left_foot y h i + 1) (omega arith))
          (not-above (left_foot y h i) (omega arith) (left-low y h i k l (lower k (omega arith) e)))
          (above (left_foot y h i + 1) (omega arith) (left-above y h i (left_foot y h i + 1) (omega arith) (omega arith))))
      go false t = place_at 0 (left_foot y h i) i (omega arith) (omega arith) (omega arith)

  pub right-place : (k : ℕ) → i ≤ k → k < length y → mag (at y k) ≤ mag h → Place (right_crossing y h i) i (length y - 1)
  unfolding right_crossing
  right-place k l n e = go (ltb i (right_foot y h i)) refl
    where
      go : (t : Bool) → ltb i (right_foot y h i) ≡ t → Place (cond t (index_f (right_foot y h i - 1) ⊕ part_way h (at y (right_foot y h i - 1)) (at y (right_foot y h i))) (index_f (right_foot y h i))) i (length y - 1)
      go true t =
          let v : i < right_foot y h i = ltb-true i (right_foot y h i) t in
          let u : right_foot y h i ≤ length y - 1 = omega arith in
          place_in i (right_foot y h i - 1) (length y - 1) _ (omega arith) (omega arith) (omega arith)
          (share-down h (at y (right_foot y h i - 1)) (at y (right_foot y h i)) H (nums (right_foot y h i - 1) (omega arith)) (nums (right_foot y h i) (omega arith))
          (not-above (right_foot y h i) (omega arith) (right-low y h i k l n (lower k n e)))
          (above (right_foot y h i - 1) (omega arith) (right-above y h i (right_foot y h i - 1) (omega arith) (omega arith))))
      go false t = place_at i (right_foot y h i) (length y - 1) (omega arith) (omega arith) (omega arith)
