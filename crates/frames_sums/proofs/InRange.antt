-- Sums over an index whose readings go to 2 ^ t stay below 2 ^ (t + 24), since it has 2 ^ 24 points at most: so many readings are a
-- value without rounding, and rounding passes no value.
use mathlib.Core.Path.{◌≡◌, refl, sym, ap, ◌∙◌, subst}
use mathlib.Core.Bool.{Bool, true, false, cond}
use mathlib.Core.List.{List, [], ◌∷◌, ◌++◌, map, map-append}
use Prim.Native.Nat.{ℕ, zero, suc, ◌≤◌, ◌<◌, ◌+◌, ◌-◌, ◌*◌, ◌^◌, zero-le}
use native.Mathlib.Nat.{le_trans, le_of_eq, mul_comm, mul_assoc, one-mul, suc-mul, add-le-add, mul-le-mul_right}
use native.Mathlib.Omega.{arith}
use borrow.Author.Tests.{ltb-true, ltb-false}
use lib.Dec.{ltb, lit<}
use lib.Pow.{pow-add}
use lib.ListN.{length, get_or, length-map, get_or-append}
use lib.Seq.{get_or_at}
use lib.Ieee.{Float, nan}
use Rattle.numeric.proofs.Bounds.{one, Rep, AtMost, rep_at, add-at-most, mag-zero, num-zero}
use Rattle.numeric.specs.Arith.{◌⊕◌, 𝟎, at}
use Rattle.sort_digits.specs.Sorted.{up_to}
use Rattle.sort_digits.proofs.UpTo.{upto-length}
use Rattle.frames_index.specs.FrameIndex.{Index, climbs_to, points}
use Rattle.frames_index.proofs.Laws.{climbs-up, climbs-most, sound-parts}
use Rattle.frames_sums.specs.declared.inner.Window.{Window}
use Rattle.frames_sums.specs.Sums.{in_bins, in_scans, add_points, add_bins, add_frame, frame_sums}
use Rattle.frames_sums.specs.Steps.{Checked}
use Rattle.frames_sums.proofs.Laws.{sums-length}

-- 2 ^ t in units
abbrev pub unit : ℕ → ℕ
unit t = one * 2 ^ t

unit-is : (t : ℕ) → unit t ≡ 2 ^ (149 + t)
unfolding one
unit-is t = sym (pow-add 2 149 t)

-- up to 2 ^ 24 of them are a value
rep-count : (n t : ℕ) → n ≤ 2 ^ 24 → t ≤ 80 → Rep (n * unit t)
rep-count n t h k = go (ltb n (2 ^ 24)) refl
  where
    go : (b : Bool) → ltb n (2 ^ 24) ≡ b → Rep (n * unit t)
    go true e = subst (λ (z : ℕ). Rep (n * z)) (sym (unit-is t)) (rep_at n (149 + t) (ltb-true n (2 ^ 24) e) (omega arith))
    go false e =
        let m : n ≡ 2 ^ 24 = omega (arith, ltb-false n (2 ^ 24) e) in
        subst (λ (z : ℕ). Rep z)
        (one-mul (2 ^ (24 + (149 + t))) ∙ pow-add 2 24 (149 + t) ∙ ap (λ (z : ℕ). z * 2 ^ (149 + t)) (sym m) ∙ ap (λ (z : ℕ). n * z) (sym (unit-is t)))
        (rep_at 1 (24 + (149 + t)) (lit< tt) (omega arith))

-- the sum of a frame of a range
pub sum-at : (ix : Index) (w : Window) (f n i : ℕ) → i < n → at (frame_sums ix w f n) i ≡ add_frame ix w (f + i) 𝟎
unfolding frame_sums up_to
sum-at ix w f zero i h = elim h [ ]
sum-at ix w f (suc n) i h = go (ltb i n) refl (λ k. sum-at ix w f n i k)
  where
    g : ℕ → Float
    g k = add_frame ix w (f + k) 𝟎

    whole : map g (up_to n ++ (n ∷ [])) ≡ map g (up_to n) ++ (g n ∷ [])
    whole = map-append g (up_to n) (n ∷ [])

    long : length (map g (up_to n)) ≡ n
    long = length-map (up_to n) g ∙ upto-length n

    go : (b : Bool) → ltb i n ≡ b → (i < n → at (map g (up_to n)) i ≡ g i) → at (map g (up_to n ++ (n ∷ []))) i ≡ g i
    go true e before =
        let k : i < n = ltb-true i n e in
        ap (λ (l : List Float). at l i) whole ∙ get_or-append (map g (up_to n)) (g n ∷ []) nan i (omega (arith, long)) ∙ before k
    go false e before =
        let k : i ≡ n = omega (arith, ltb-false i n e) in
        ap (λ (l : List Float). at l i) whole ∙ rw k (get_or_at (map g (up_to n)) (g n) [] nan n long)

module _ (ix : Index) (w : Window) (t : ℕ) (small : t ≤ 80) (ranged : (i : ℕ) → i < length ix.readings → AtMost (at ix.readings i) (unit t)) where
  -- with j readings at most in the sum so far, n points more
  points-at-most : (n a j : ℕ) (so : Float) → a + n ≤ length ix.readings → j + n ≤ 2 ^ 24 → AtMost so (j * unit t) → AtMost (add_points ix w n a so) ((j + n) * unit t)
  unfolding add_points
  points-at-most zero a j so h k p = let e : j + 0 ≡ j = omega arith in rw e p
  points-at-most (suc n) a j so h k p = let e : j + suc n ≡ suc j + n = omega arith in rw e (points-at-most n (a + 1) (suc j) _ (omega arith) (omega arith) (go (in_scans w (get_or ix.scans a 0))))
    where
      v : Float
      v = at ix.readings a

      more : j * unit t ≤ suc j * unit t
      more = mul-le-mul_right (unit t) (omega arith)

      q : AtMost v (unit t)
      q = ranged a (omega arith)

      go : (b : Bool) → AtMost (cond b (so ⊕ v) so) (suc j * unit t)
      go true =
          add-at-most so v (suc j * unit t) p.0 q.0 (rep-count (suc j) t (omega arith) small)
          (le_trans (add-le-add p.1 q.1) (le_of_eq (sym (suc-mul j (unit t)))))
      go false = (p.0, le_trans p.1 more)

  module _ (checked : Checked ix) (few : points ix ≤ 2 ^ 24) where
    abbrev start : ℕ → ℕ
    start i = get_or ix.offsets i 0

    climbs : climbs_to (points ix) ix.offsets ≡ true
    climbs = (sound-parts ix.starts ix.bins ix.offsets (points ix) checked.sound).1

    -- n bins from place i on: no more readings than points before the last of them ends
    bins-at-most : (n i j : ℕ) (so : Float) → i + n < length ix.offsets → j ≤ start i → AtMost so (j * unit t) → AtMost (add_bins ix w n i so) (start (i + n) * unit t)
    unfolding add_bins
    bins-at-most zero i j so h k p = let e : i + 0 ≡ i = omega arith in rw e (p.0, le_trans p.1 (mul-le-mul_right (unit t) k))
    bins-at-most (suc n) i j so h k p =
        let e : i + suc n ≡ i + 1 + n = omega arith in
        rw e (bins-at-most n (i + 1) (start (i + 1)) _ (omega arith) (le_of_eq refl) (go (in_bins w (get_or ix.bins i 0))))
      where
        up : start i ≤ start (i + 1)
        up = climbs-up (points ix) ix.offsets i (i + 1) climbs (omega arith) (omega arith)

        most : start (i + 1) ≤ points ix
        most = climbs-most (points ix) ix.offsets (i + 1) climbs (omega arith)

        same : length ix.readings ≡ points ix
        same = checked.readings

        go : (b : Bool) → AtMost (cond b (add_points ix w (start (i + 1) - start i) (start i) so) so) (start (i + 1) * unit t)
        go true =
            let r = points-at-most (start (i + 1) - start i) (start i) j so (omega (arith, up, most, same)) (omega (arith, up, most, few, k)) p in
            (r.0, le_trans r.1 (mul-le-mul_right (unit t) (omega (arith, up, k))))
        go false = (p.0, le_trans p.1 (mul-le-mul_right (unit t) (omega (arith, up, k))))

    -- a frame's sum
    pub frame-at-most : (f : ℕ) → f + 1 < length ix.starts → AtMost (add_frame ix w f 𝟎) (unit (t + 24))
    unfolding add_frame
    frame-at-most f h =
        let s = get_or ix.starts f 0 in
        let e = get_or ix.starts (f + 1) 0 in
        let starts = (sound-parts ix.starts ix.bins ix.offsets (points ix) checked.sound).0 in
        let up : s ≤ e = climbs-up (length ix.bins) ix.starts f (f + 1) starts (omega arith) h in
        let most : e ≤ length ix.bins = climbs-most (length ix.bins) ix.starts (f + 1) starts h in
        let room : s + (e - s) < length ix.offsets = omega (arith, up, most, checked.offsets) in
        let r = bins-at-most (e - s) s 0 𝟎 room zero-le (num-zero, rw mag-zero zero-le) in
        let last : start (s + (e - s)) ≤ 2 ^ 24 = le_trans (climbs-most (points ix) ix.offsets (s + (e - s)) climbs room) few in
        (r.0, le_trans r.1 (le_trans (mul-le-mul_right (unit t) last) (le_of_eq units)))
      where
        units : 2 ^ 24 * unit t ≡ unit (t + 24)
        units = mul_comm (2 ^ 24) (unit t) ∙ mul_assoc one (2 ^ t) (2 ^ 24) ∙ ap (λ (z : ℕ). one * z) (sym (pow-add 2 t 24))

    -- those of a range of frames
    pub sums-at-most : (f n : ℕ) → f + n < length ix.starts → (i : ℕ) → i < length (frame_sums ix w f n) → AtMost (at (frame_sums ix w f n) i) (unit (t + 24))
    unfolding frame_sums
    sums-at-most f n h i k =
        let l : i < n = subst (λ (z : ℕ). i < z) (sums-length ix w f n) k in
        subst (λ (x : Float). AtMost x (unit (t + 24))) (sym (sum-at ix w f n i l)) (frame-at-most (f + i) (omega arith))
