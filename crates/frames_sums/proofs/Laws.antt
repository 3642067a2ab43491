-- Sums of points, bins and frames, part by part.
use mathlib.Core.Path.{◌≡◌, refl, sym, ap, ◌∙◌}
use mathlib.Core.Bool.{Bool, true, false, cond, ◌||◌}
use mathlib.Core.List.{List, [], ◌∷◌, ◌++◌, map-append}
use Prim.Native.Nat.{ℕ, zero, suc, ◌≤◌, ◌<◌, ◌+◌, ◌-◌, ◌*◌}
use native.Mathlib.Numerals.{add-one}
use native.Mathlib.Omega.{arith}
use borrow.Author.Tests.{le-leb, lt-leb, ltb-true, ltb-false}
use lib.Dec.{leb, ltb}
use lib.ListN.{length, get_or, take, drop, set, length-map, length-drop}
use lib.Seq.{get_or-take, get_or-drop, length-take-le, drop-cons, drop-drop}
use lib.Ieee.{Float, nan}
use Rattle.std.specs.Prelude.{Option, Some, None, is_some}
use Rattle.std.specs.Option.{unwrap_or}
use Rattle.std.specs.List.{position, position_or_len, fold, zip, list_any}
use Rattle.std.specs.Simd.{first_chunks}
use Rattle.std.proofs.lemmas.List.Quantifiers.{position-Some}
use Rattle.std.proofs.lemmas.List.Sums.{fails_before_first, fold-append}
use Rattle.refusal.proofs.Bools.{clash, neither}
use Rattle.numeric.specs.Arith.{◌⊕◌, 𝟎, at}
use Rattle.sort_digits.specs.Sorted.{up_to}
use Rattle.sort_digits.proofs.UpTo.{upto-length}
use Rattle.frames_index.specs.FrameIndex.{Index, climbs_to, points}
use Rattle.frames_index.proofs.Laws.{climbs-up, climbs-most, frame-up, sound-parts}
use Rattle.frames_sums.specs.declared.inner.Window.{Window}
use Rattle.frames_sums.specs.Sums.{in_bins, in_scans, add_points, add_bins, add_frame, frame_sums}
use Rattle.frames_sums.specs.Steps.{Checked, Rising, FirstAt, add_each, with_scans, PointsOf}
use Rattle.std.proofs.Math.Bool.{or_assoc, or-false, and-false}
use Rattle.numeric.proofs.Lists.{push}

-- an element of a part, by its place in the whole
pub part_at : {A : Type 0} (a b : ℕ) (l : List A) (i : ℕ) (d : A) → i < b - a → get_or (take (b - a) (drop a l)) i d ≡ get_or l (a + i) d
part_at a b l i d h = get_or-take (b - a) (drop a l) i d h ∙ get_or-drop a l i d

-- its length
pub part_length : {A : Type 0} (a b : ℕ) (l : List A) → a ≤ b → b ≤ length l → length (take (b - a) (drop a l)) ≡ b - a
part_length a b l h m = length-take-le (b - a) (drop a l) (rw (length-drop a l) (omega arith))

module _ (ix : Index) (w : Window) where
  -- ---- points

  -- one point more
  pub points-step : (a b : ℕ) (so : Float) → a < b → add_points ix w (b - a) a so ≡ add_points ix w (b - (a + 1)) (a + 1) (cond (in_scans w (get_or ix.scans a 0)) (so ⊕ at ix.readings a) so)
  unfolding add_points
  points-step a b so h = let e : b - a ≡ suc (b - (a + 1)) = omega arith in rw e

  pub points-take : (a b : ℕ) (so : Float) → a < b → in_scans w (get_or ix.scans a 0) ≡ true → add_points ix w (b - a) a so ≡ add_points ix w (b - (a + 1)) (a + 1) (so ⊕ at ix.readings a)
  points-take a b so h t = points-step a b so h ∙ ap (λ (x : Bool). add_points ix w (b - (a + 1)) (a + 1) (cond x (so ⊕ at ix.readings a) so)) t

  pub points-skip : (a b : ℕ) (so : Float) → a < b → in_scans w (get_or ix.scans a 0) ≡ false → add_points ix w (b - a) a so ≡ add_points ix w (b - (a + 1)) (a + 1) so
  points-skip a b so h t = points-step a b so h ∙ ap (λ (x : Bool). add_points ix w (b - (a + 1)) (a + 1) (cond x (so ⊕ at ix.readings a) so)) t

  pub points_none : (a b : ℕ) (so : Float) → b ≤ a → add_points ix w (b - a) a so ≡ so
  unfolding add_points
  points_none a b so h = let e : b - a ≡ 0 = omega arith in rw e

  points-more : (n m a : ℕ) (so : Float) → add_points ix w (n + m) a so ≡ add_points ix w m (a + n) (add_points ix w n a so)
  unfolding add_points
  points-more zero m a so = let e : a + 0 ≡ a = omega arith in let z : 0 + m ≡ m = omega arith in rw (e, z)
  points-more (suc n) m a so =
      let e : suc n + m ≡ suc (n + m) = omega arith in
      let k : a + 1 + n ≡ a + suc n = omega arith in
      rw (e, sym k) (points-more n m (a + 1) (cond (in_scans w (get_or ix.scans a 0)) (so ⊕ at ix.readings a) so))

  -- one point more behind those from the first on
  points-last : (n : ℕ) (so : Float) → add_points ix w (n + 1) 0 so
      ≡ cond (in_scans w (get_or ix.scans n 0)) (add_points ix w n 0 so ⊕ at ix.readings n) (add_points ix w n 0 so)
  unfolding add_points
  points-last n so = let e : 0 + n ≡ n = omega arith in rw e at (points-more n 1 0 so)

  pub points-in : (n : ℕ) (so sum : Float) → sum ≡ add_points ix w n 0 so → in_scans w (get_or ix.scans n 0) ≡ true → sum ⊕ at ix.readings n ≡ add_points ix w (n + 1) 0 so
  points-in n so sum h t = rw (points-last n so, t, h) refl

  pub points-out : (n : ℕ) (so sum : Float) → sum ≡ add_points ix w n 0 so → in_scans w (get_or ix.scans n 0) ≡ false → sum ≡ add_points ix w (n + 1) 0 so
  points-out n so sum h t = rw (points-last n so, t) h

  -- points up to a place, and those from it on
  pub points-join : (a b d : ℕ) (so : Float) → a ≤ b → b ≤ d → add_points ix w (d - a) a so ≡ add_points ix w (d - b) b (add_points ix w (b - a) a so)
  points-join a b d so h k =
      let e : d - a ≡ (b - a) + (d - b) = omega arith in
      let f : a + (b - a) ≡ b = omega arith in
      rw e (points-more (b - a) (d - b) a so ∙ ap (λ (i : ℕ). add_points ix w (d - b) i (add_points ix w (b - a) a so)) f)

  -- those of n places from a on are added one by one
  pub points-each : (n a : ℕ) (so : Float) → a + n ≤ length ix.scans → a + n ≤ length ix.readings
      → add_points ix w n a so ≡ add_each w so (zip (take n (drop a ix.scans)) (take n (drop a ix.readings)))
  unfolding add_points
  points-each zero a so h k = refl
  points-each (suc n) a so h k =
      let e : suc a ≡ a + 1 = omega arith in
      rw (drop-cons ix.scans a 0 (omega arith), drop-cons ix.readings a nan (omega arith), e)
      (points-each n (a + 1) (cond (in_scans w (get_or ix.scans a 0)) (so ⊕ at ix.readings a) so) (omega arith) (omega arith))

  -- ---- bins

  bins-more : (n m i : ℕ) (so : Float) → add_bins ix w (n + m) i so ≡ add_bins ix w m (i + n) (add_bins ix w n i so)
  unfolding add_bins
  bins-more zero m i so = let e : i + 0 ≡ i = omega arith in let z : 0 + m ≡ m = omega arith in rw (e, z)
  bins-more (suc n) m i so =
      let e : suc n + m ≡ suc (n + m) = omega arith in
      let k : i + 1 + n ≡ i + suc n = omega arith in
      rw (e, sym k) (bins-more n m (i + 1) _)

  bins-join : (a b d : ℕ) (so : Float) → a ≤ b → b ≤ d → add_bins ix w (d - a) a so ≡ add_bins ix w (d - b) b (add_bins ix w (b - a) a so)
  bins-join a b d so h k =
      let e : d - a ≡ (b - a) + (d - b) = omega arith in
      let f : a + (b - a) ≡ b = omega arith in
      rw e (bins-more (b - a) (d - b) a so ∙ ap (λ (i : ℕ). add_bins ix w (d - b) i (add_bins ix w (b - a) a so)) f)

  -- bins outside the window add nothing
  bins-out : (n i : ℕ) (so : Float) → ((j : ℕ) → i ≤ j → j < i + n → in_bins w (get_or ix.bins j 0) ≡ false) → add_bins ix w n i so ≡ so
  unfolding add_bins
  bins-out zero i so h = refl
  bins-out (suc n) i so h = rw (h i (omega arith) (omega arith)) (bins-out n (i + 1) so (λ j a b. h j (omega arith) (omega arith)))

  -- bins inside it add all their points, which stand side by side
  bins-in : (n i m : ℕ) (so : Float) → climbs_to m ix.offsets ≡ true → i + n < length ix.offsets
      → ((j : ℕ) → i ≤ j → j < i + n → in_bins w (get_or ix.bins j 0) ≡ true)
      → add_bins ix w n i so ≡ add_points ix w (get_or ix.offsets (i + n) 0 - get_or ix.offsets i 0) (get_or ix.offsets i 0) so
  unfolding add_bins
  bins-in zero i m so c l h = let e : i + 0 ≡ i = omega arith in rw e (sym (points_none (get_or ix.offsets i 0) (get_or ix.offsets i 0) so (omega arith)))
  bins-in (suc n) i m so c l h =
      let o : ℕ → ℕ = λ (k : ℕ). get_or ix.offsets k 0 in
      let e : i + 1 + n ≡ i + suc n = omega arith in
      rw (h i (omega arith) (omega arith), sym e)
      (bins-in n (i + 1) m (add_points ix w (o (i + 1) - o i) (o i) so) c (omega arith) (λ j a b. h j (omega arith) (omega arith))
      ∙ sym (points-join (o i) (o (i + 1)) (o (i + 1 + n)) so (climbs-up m ix.offsets i (i + 1) c (omega arith) (omega arith)) (climbs-up m ix.offsets (i + 1) (i + 1 + n) c (omega arith) (omega arith))))

  in-bins : (b : ℕ) → w.bin_lo ≤ b → b ≤ w.bin_hi → in_bins w b ≡ true
  in-bins b h k = rw (le-leb w.bin_lo b h, le-leb b w.bin_hi k)

  below-bins : (b : ℕ) → b < w.bin_lo → in_bins w b ≡ false
  below-bins b h = rw (lt-leb w.bin_lo b h)

  above-bins : (b : ℕ) → w.bin_hi < b → in_bins w b ≡ false
  above-bins b h = rw (lt-leb b w.bin_hi h) (and-false (leb w.bin_lo b))

  -- a frame's sum is that of the points from the first bin that the window reaches up to the first above it
  pub frame-points : (m f i j : ℕ) (so : Float) → climbs_to m ix.offsets ≡ true → get_or ix.starts (f + 1) 0 < length ix.offsets
      → FirstAt ix.bins (get_or ix.starts f 0) (get_or ix.starts (f + 1) 0) w.bin_lo i
      → FirstAt ix.bins i (get_or ix.starts (f + 1) 0) (w.bin_hi + 1) j
      → add_frame ix w f so ≡ add_points ix w (get_or ix.offsets j 0 - get_or ix.offsets i 0) (get_or ix.offsets i 0) so
  unfolding add_frame
  frame-points m f i j so c l a b =
      let s = get_or ix.starts f 0 in
      let t = get_or ix.starts (f + 1) 0 in
      let si : s ≤ i = a.after in
      let it : i ≤ t = a.before in
      let ij : i ≤ j = b.after in
      let jt : j ≤ t = b.before in
      let e : i + (j - i) ≡ j = omega arith in
      bins-join s i t so si it
      ∙ ap (add_bins ix w (t - i) i) (bins-out (i - s) s so (λ k x y. below-bins (get_or ix.bins k 0) (a.low k x (omega arith))))
      ∙ bins-join i j t so ij jt
      ∙ bins-out (t - j) j (add_bins ix w (j - i) i so) (λ k x y. above-bins (get_or ix.bins k 0) (omega (arith, b.high k x (omega arith))))
      ∙ bins-in (j - i) i m so c (omega arith) (λ k x y. in-bins (get_or ix.bins k 0) (a.high k x (omega arith)) (omega (arith, b.low k x (omega arith))))
      ∙ ap (λ (k : ℕ). add_points ix w (get_or ix.offsets k 0 - get_or ix.offsets i 0) (get_or ix.offsets i 0) so) e

-- ---- points side by side

zip_none : {A B : Type 0} (xs : List A) → zip {K = A} {X = B} xs [] ≡ []
zip_none [] = refl
zip_none (x ∷ xs) = refl

zip-split : {A B : Type 0} (n : ℕ) (xs : List A) (ys : List B) → zip xs ys ≡ zip (take n xs) (take n ys) ++ zip (drop n xs) (drop n ys)
zip-split zero xs ys = refl
zip-split (suc n) [] ys = refl
zip-split (suc n) (x ∷ xs) [] = sym (zip_none (drop n xs))
zip-split (suc n) (x ∷ xs) (y ∷ ys) = ap (λ l. (x, y) ∷ l) (zip-split n xs ys)

pub any-fold : {A : Type 0} (t : A → Bool) (xs : List A) (any : Bool) → fold (λ (any : Bool) (x : A). any || t x) any xs ≡ (any || list_any t xs)
any-fold t [] any = sym (or-false any)
any-fold t (x ∷ xs) any = any-fold t xs (any || t x) ∙ or_assoc any (t x) (list_any t xs)

module _ (w : Window) where
  -- points of which none lies in the window add nothing
  pub each-out : (scans : List ℕ) (readings : List Float) (so : Float) → list_any (in_scans w) scans ≡ false → add_each w so (zip scans readings) ≡ so
  each-out [] readings so h = refl
  each-out (s ∷ scans) [] so h = refl
  each-out (s ∷ scans) (r ∷ readings) so h = let e = neither (in_scans w s) h in ap (λ (b : Bool). add_each w (cond b (so ⊕ r) so) (zip scans readings)) e.0 ∙ each-out scans readings so e.1

  -- run after run of n points, and then those behind the last run
  pub each-runs : (n k : ℕ) (scans : List ℕ) (readings : List Float) (so : Float)
      → add_each w (fold (λ (sum : Float) (p : List ℕ × List Float). add_each w sum (zip p.0 p.1)) so (zip (first_chunks n k scans) (first_chunks n k readings)))
      (zip (drop (k * n) scans) (drop (k * n) readings))
      ≡ add_each w so (zip scans readings)
  each-runs n zero scans readings so = let e : 0 * n ≡ 0 = omega arith in rw e refl
  each-runs n (suc k) scans readings so =
      let e : suc k * n ≡ n + k * n = omega arith in
      rw (e, sym (drop-drop (k * n) n scans), sym (drop-drop (k * n) n readings))
      (each-runs n k (drop n scans) (drop n readings) (add_each w so (zip (take n scans) (take n readings)))
      ∙ sym (ap (add_each w so) (zip-split n scans readings) ∙ fold-append _ so (zip (take n scans) (take n readings)) (zip (drop n scans) (drop n readings))))

-- ---- the search

-- places before r have bins below x, those from n past it on have bins of x at least
pub record Halved (bins : List ℕ) (from to x r n : ℕ) : Type 0 where
  pub some : 0 < n
  pub after : from ≤ r
  pub before : r + n ≤ to
  pub low : (j : ℕ) → from ≤ j → j < r → get_or bins j 0 < x
  pub high : (j : ℕ) → r + n ≤ j → j < to → x ≤ get_or bins j 0

pub rise-le : (bins : List ℕ) (from to j k : ℕ) → Rising bins from to → from ≤ j → j ≤ k → k < to → get_or bins j 0 ≤ get_or bins k 0
rise-le bins from to j k r a b d = go (ltb j k) refl
  where
    go : (t : Bool) → ltb j k ≡ t → get_or bins j 0 ≤ get_or bins k 0
    go true t = omega (arith, r j k a (ltb-true j k t) d)
    go false t = let e : j ≡ k = omega (arith, ltb-false j k t) in rw e (omega arith)

module _ (bins : List ℕ) (from to x : ℕ) (rise : Rising bins from to) where
  pub first-none : from ≡ to → FirstAt bins from to x from
  first-none e =
      record {
        after = omega arith;
        before = omega arith;
        low = λ j a d. absurd (omega arith);
        high = λ j a d. absurd (omega arith);
      }

  -- step by step
  pub first-here : (i : ℕ) → from ≤ i → i < to → ((j : ℕ) → from ≤ j → j < i → get_or bins j 0 < x) → x ≤ get_or bins i 0 → FirstAt bins from to x i
  first-here i a b l h =
      record { after = a; before = omega arith; low = l; high = λ j k d. omega (arith, rise-le bins from to i j rise a k d) }

  pub first-last : (i : ℕ) → from ≤ i → i ≡ to → ((j : ℕ) → from ≤ j → j < i → get_or bins j 0 < x) → FirstAt bins from to x i
  first-last i a b l = record { after = a; before = omega arith; low = l; high = λ j k d. absurd (omega arith) }

-- none passes where no place is found
position-None : (p : ℕ → Bool) (xs : List ℕ) (k d : ℕ) → position p xs ≡ None → k < length xs → p (get_or xs k d) ≡ false
position-None p xs k d e h = go (ltb (position_or_len p xs) (length xs)) refl e
  where
    go : (t : Bool) → ltb (position_or_len p xs) (length xs) ≡ t → cond t (Some (position_or_len p xs)) None ≡ None → p (get_or xs k d) ≡ false
    go true t e = clash false (sym (ap is_some e)) refl
    go false t e = fails_before_first p xs k d (omega (arith, h, ltb-false (position_or_len p xs) (length xs) t))

-- the first that is above x, or the end where there is none
pub first_by : (bins : List ℕ) (from to x : ℕ) (o : Option ℕ) (r : ℕ) → Rising bins from to → from ≤ to → to ≤ length bins
    → o ≡ position (λ b. ltb x b) (take (to - from) (drop from bins)) → r ≡ from + unwrap_or o (to - from) → FirstAt bins from to (x + 1) r
first_by bins from to x None r rise h m e k =
    let part = take (to - from) (drop from bins) in
    let len : length part ≡ to - from = part_length from to bins h m in
    first-last bins from to (x + 1) rise r (omega arith) (omega (arith, k))
    (λ j a b.
    let i : from + (j - from) ≡ j = omega arith in
    let v = ltb-false x (get_or part (j - from) 0) (position-None (λ b. ltb x b) part (j - from) 0 (sym e) (omega (arith, len))) in
    rw (sym i) (omega (arith, v, part_at from to bins (j - from) 0 (omega arith))))
first_by bins from to x (Some n) r rise h m e k =
    let part = take (to - from) (drop from bins) in
    let len : length part ≡ to - from = part_length from to bins h m in
    let p = position-Some (λ b. ltb x b) part n 0 (sym e) in
    let l : n < to - from = omega (arith, len, p.0) in
    let here = ltb-true x (get_or part n 0) p.1 in
    rw k (first-here bins from to (x + 1) rise (from + n) (omega arith) (omega arith)
    (λ j a b.
    let i : from + (j - from) ≡ j = omega arith in
    let v = ltb-false x (get_or part (j - from) 0) (p.2 (j - from) (omega arith)) in
    rw (sym i) (omega (arith, v, part_at from to bins (j - from) 0 (omega arith))))
    (omega (arith, here, part_at from to bins n 0 l)))

-- an index that no number of a call refuses

-- ---- a frame of a checked index
module _ (ix : Index) (ck : Checked ix) (f : ℕ) (l : f + 1 < length ix.starts) where
  abbrev starts-climb : climbs_to (length ix.bins) ix.starts ≡ true
  starts-climb = (sound-parts ix.starts ix.bins ix.offsets (points ix) ck.sound).0

  abbrev offsets-climb : climbs_to (points ix) ix.offsets ≡ true
  offsets-climb = (sound-parts ix.starts ix.bins ix.offsets (points ix) ck.sound).1

  frame-order : get_or ix.starts f 0 ≤ get_or ix.starts (f + 1) 0
  frame-order = climbs-up (length ix.bins) ix.starts f (f + 1) starts-climb (omega arith) l

  frame-most : get_or ix.starts (f + 1) 0 ≤ length ix.bins
  frame-most = climbs-most (length ix.bins) ix.starts (f + 1) starts-climb l

  frame-rises : Rising ix.bins (get_or ix.starts f 0) (get_or ix.starts (f + 1) 0)
  frame-rises j k = frame-up ix.bins ix.starts f j k (sound-parts ix.starts ix.bins ix.offsets (points ix) ck.sound).3 l frame-most

  -- it has its bins from s up to t
  module _ (s t : ℕ) (se : s ≡ get_or ix.starts f 0) (te : t ≡ get_or ix.starts (f + 1) 0) where
    pub frame-bins : (s ≤ t) × (t ≤ length ix.bins) × Rising ix.bins s t
    frame-bins = rw (se, te) (frame-order, frame-most, frame-rises)

    pub frame-rest : (x i : ℕ) → FirstAt ix.bins s t x i → (i ≤ t) × (t ≤ length ix.bins) × Rising ix.bins i t
    frame-rest x i a = let b : s ≤ i = a.after in (a.before, frame-bins.1, λ j k h. frame-bins.2 j k (omega arith))

    -- places up to t have an offset
    pub frame-offset : (i : ℕ) → i ≤ t → i < length ix.offsets
    frame-offset i h = let e : length ix.offsets ≡ length ix.bins + 1 = ck.offsets in omega (arith, frame-bins.1)

    pub frame-span : (w : Window) (i j p q : ℕ) → FirstAt ix.bins s t w.bin_lo i → FirstAt ix.bins i t (w.bin_hi + 1) j
        → p ≡ get_or ix.offsets i 0 → q ≡ get_or ix.offsets j 0 → PointsOf ix w f (record { from = p; to = q })
    frame-span w i j p q a b pe qe =
        let ij : i ≤ j = b.after in
        let jt : j ≤ t = b.before in
        rw (pe, qe)
        (record {
          order = climbs-up (points ix) ix.offsets i j offsets-climb ij (frame-offset j jt);
          most = climbs-most (points ix) ix.offsets j offsets-climb (frame-offset j jt);
          sum = λ lo hi so.
              frame-points
              ix
              (with_scans w lo hi)
              (points ix)
              f
              i
              j
              so
              offsets-climb
              (rw (sym te) (frame-offset t (omega arith)))
              (rw (sym se, sym te) a)
              (rw (sym te) b);
        })

-- ---- sums of frames one after another

module _ (ix : Index) (w : Window) (f : ℕ) where
  pub sums_none : frame_sums ix w f 0 ≡ []
  unfolding frame_sums up_to
  sums_none = refl

  pub sums-length : (k : ℕ) → length (frame_sums ix w f k) ≡ k
  unfolding frame_sums
  sums-length k = length-map (up_to k) (λ i. add_frame ix w (f + i) 𝟎) ∙ upto-length k

  sums-more : (k : ℕ) → frame_sums ix w f (k + 1) ≡ frame_sums ix w f k ++ (add_frame ix w (f + k) 𝟎 ∷ [])
  unfolding frame_sums up_to
  sums-more k = rw add-one (map-append (λ i. add_frame ix w (f + i) 𝟎) (up_to k) (k ∷ []))

  pub sums-put : (k : ℕ) (out d : List Float) (v : Float) → out ≡ frame_sums ix w f k ++ drop k d → k < length d → v ≡ add_frame ix w (f + k) 𝟎
      → set out k v ≡ frame_sums ix w f (k + 1) ++ drop (k + 1) d
  sums-put k out d v e h r = rw (e, r, sums-more k) (push (frame_sums ix w f k) d k (add_frame ix w (f + k) 𝟎) (sums-length k) h)
