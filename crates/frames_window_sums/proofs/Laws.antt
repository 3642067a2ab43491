-- Searches near a place.
use mathlib.Core.Path.{◌≡◌, refl, sym, ap, ◌∙◌, subst}
use mathlib.Core.Bool.{Bool, true, false, cond}
use mathlib.Core.List.{List}
use Prim.Native.Nat.{ℕ, zero, suc, ◌≤◌, ◌<◌, ◌+◌, ◌-◌}
use native.Mathlib.Omega.{arith}
use borrow.Author.Tests.{ltb-true, ltb-false, eqb-true, eqb-false}
use lib.Dec.{ltb, eqb}
use lib.ListN.{length, get_or, take, drop, set, length-drop}
use lib.Seq.{get_or-set_same, get_or-set_other, get_or-drop, take-suc}
use Rattle.std.specs.List.{sum_by}
use Rattle.std.proofs.lemmas.List.Sums.{sum_by_push}
use Rattle.frames_index.specs.FrameIndex.{Index}
use Rattle.frames_sums.specs.declared.inner.Window.{Window}
use Rattle.frames_sums.specs.Steps.{Rising, FirstAt, with_scans, PointsOf}
use Rattle.frames_sums.proofs.Laws.{rise-le, first-none, points_none}
use Rattle.frames_window_sums.specs.Steps.{FirstIn, Placed}

-- 1 where a bin is below x
abbrev pub one_below : ℕ → ℕ → ℕ
one_below x bin = cond (ltb bin x) 1 0

module _ (bins : List ℕ) (from to x : ℕ) (rise : Rising bins from to) where
  -- a part of the places
  pub rises-in : (a b : ℕ) → from ≤ a → b ≤ to → Rising bins a b
  rises-in a b k l i j h u v = rise i j (omega arith) u (omega arith)

  -- the places up to one whose bin is below x
  low-to : (h : ℕ) → h < to → get_or bins h 0 < x → (j : ℕ) → from ≤ j → j < h + 1 → get_or bins j 0 < x
  low-to h k b j a d = omega (arith, rise-le bins from to j h rise a (omega arith) k)

  -- those from one on whose bin is x at least
  high-from : (h : ℕ) → from ≤ h → x ≤ get_or bins h 0 → (j : ℕ) → h ≤ j → j < to → x ≤ get_or bins j 0
  high-from h k b j a d = omega (arith, rise-le bins from to h j rise k a d)

  -- what is first among the places from a up to b is first among all, if those before have bins below x and those behind do not
  wider : (a b r : ℕ) → from ≤ a → b ≤ to → ((j : ℕ) → from ≤ j → j < a → get_or bins j 0 < x) → ((j : ℕ) → b ≤ j → j < to → x ≤ get_or bins j 0)
      → FirstAt bins a b x r → FirstAt bins from to x r
  wider a b r k l low high g =
      let after : a ≤ r = g.after in
      let before : r ≤ b = g.before in
      record { after = omega arith; before = omega arith; low = lows; high = highs }
    where
      lows : (j : ℕ) → from ≤ j → j < r → get_or bins j 0 < x
      lows j u v = go (ltb j a) refl
        where
          go : (t : Bool) → ltb j a ≡ t → get_or bins j 0 < x
          go true t = low j u (ltb-true j a t)
          go false t = g.low j (ltb-false j a t) v

      highs : (j : ℕ) → r ≤ j → j < to → x ≤ get_or bins j 0
      highs j u v = go (ltb j b) refl
        where
          go : (t : Bool) → ltb j b ≡ t → x ≤ get_or bins j 0
          go true t = g.high j u (ltb-true j b t)
          go false t = high j (ltb-false j b t) v

  -- where the next place has a bin below x, all before it have
  no_gap : (i r : ℕ) → i < to → get_or bins i 0 < x → FirstAt bins from i x r → r ≡ i
  no_gap i r h l g = go (ltb r i) refl
    where
      go : (t : Bool) → ltb r i ≡ t → r ≡ i
      go true t =
          let k = ltb-true r i t in
          let after : from ≤ r = g.after in
          absurd (omega (arith, g.high r (omega arith) k, rise-le bins from to r i rise after (omega arith) h))
      go false t = let before : r ≤ i = g.before in omega (arith, ltb-false r i t)

  -- one place more, whose bin is below x or is not
  pub first_counted : (i r : ℕ) → i < to → from ≤ i → get_or bins i 0 < x → FirstAt bins from i x r → FirstAt bins from (i + 1) x (r + 1)
  first_counted i r h a l g =
      let n = no_gap i r h l g in
      rw n (record { after = omega arith; before = omega arith; low = low-to i h l; high = λ j u v. absurd (omega arith) })

  pub first-passed : (i r : ℕ) → i < to → from ≤ i → x ≤ get_or bins i 0 → FirstAt bins from i x r → FirstAt bins from (i + 1) x r
  first-passed i r h a b g =
      let before : r ≤ i = g.before in
      record { after = g.after; before = omega arith; low = g.low; high = high-more }
    where
      high-more : (j : ℕ) → r ≤ j → j < i + 1 → x ≤ get_or bins j 0
      high-more j u v = go (ltb j i) refl
        where
          go : (t : Bool) → ltb j i ≡ t → x ≤ get_or bins j 0
          go true t = g.high j u (ltb-true j i t)
          go false t = let q : j ≡ i = omega (arith, ltb-false j i t) in rw q b

  -- the one more is counted where its bin, v, is below x
  pub first-next : (i r v d : ℕ) → i < to → from ≤ i → v ≡ get_or bins i 0 → d ≡ cond (ltb v x) 1 0 → FirstAt bins from i x r → FirstAt bins from (i + 1) x (r + d)
  first-next i r v d h a e k g = rw k (go (ltb v x) refl)
    where
      go : (t : Bool) → ltb v x ≡ t → FirstAt bins from (i + 1) x (r + cond t 1 0)
      go true t = first_counted i r h a (rw (sym e) (ltb-true v x t)) g
      go false t = let z : r + 0 ≡ r = omega arith in rw z (first-passed i r h a (rw (sym e) (ltb-false v x t)) g)

  -- those of n places that are below x are counted
  counted : (n : ℕ) → from + n ≤ to → to ≤ length bins → FirstAt bins from (from + n) x (from + sum_by (one_below x) (take n (drop from bins)))
  counted zero h m = let z : from + 0 ≡ from = omega arith in rw z (first-none bins from from x (λ j k a b d. absurd (omega arith)) refl)
  counted (suc n) h m =
      let l = drop from bins in
      let k : n < length l = rw (length-drop from bins) (omega arith) in
      let v = get_or l n 0 in
      let part : sum_by (one_below x) (take (suc n) l) ≡ sum_by (one_below x) (take n l) + one_below x v = ap (sum_by (one_below x)) (take-suc l n 0 k) ∙ sum_by_push (one_below x) (take n l) v in
      let sum : from + (sum_by (one_below x) (take n l) + one_below x v) ≡ from + sum_by (one_below x) (take n l) + one_below x v = omega arith in
      let e : from + suc n ≡ from + n + 1 = omega arith in
      rw (e, part, sum) (first-next (from + n) (from + sum_by (one_below x) (take n l)) v (one_below x v) (omega arith) (omega arith) (get_or-drop from bins n 0) refl (counted n (omega arith) m))

  pub all_counted : from ≤ to → to ≤ length bins → FirstAt bins from to x (from + sum_by (one_below x) (take (to - from) (drop from bins)))
  all_counted h m = let e : from + (to - from) ≡ to = omega arith in rw e at (counted (to - from) (omega arith) m)

  pub first-whole : (i r : ℕ) → i ≡ to → FirstAt bins from i x r → FirstAt bins from to x r
  first-whole i r e g = subst (λ (j : ℕ). FirstAt bins from j x r) e g

  -- past a place whose bin is below x
  pub first-behind : (h r : ℕ) → from ≤ h → h < to → get_or bins h 0 < x → FirstAt bins (h + 1) to x r → FirstAt bins from to x r
  first-behind h r a b d g = wider (h + 1) to r (omega arith) (omega arith) (low-to h b d) (λ j u v. absurd (omega arith)) g

  -- up to a place whose bin is x at least
  pub first-before : (h r : ℕ) → from ≤ h → h ≤ to → x ≤ get_or bins h 0 → FirstAt bins from h x r → FirstAt bins from to x r
  first-before h r a b d g = wider from h r (omega arith) b (λ j u v. absurd (omega arith)) (high-from h a d) g

-- a span between one place and itself is any that has no points
pub no-points : (ix : Index) (w : Window) (f p : ℕ) → PointsOf ix w f (record { from = p; to = p }) → PointsOf ix w f (record { from = 0; to = 0 })
no-points ix w f p g =
    record {
      order = omega arith;
      most = omega arith;
      sum = λ lo hi so. g.sum lo hi so ∙ points_none ix (with_scans w lo hi) p p so (omega arith) ∙ sym (points_none ix (with_scans w lo hi) 0 0 so (omega arith));
    }

pub same_place : (offsets : List ℕ) (i j : ℕ) → i ≡ j → get_or offsets i 0 ≡ get_or offsets j 0
same_place offsets i j e = rw e

-- ---- the places of frames one after another

-- a place in a frame's word, and none in the others'
pub placed-more : (ix : Index) (f k x v : ℕ) (near : List ℕ) → f + k < length near → Placed ix f k x near → FirstIn ix (f + k) x v → Placed ix f (k + 1) x (set near (f + k) v)
placed-more ix f k x v near h p g j l = go (eqb j k) refl
  where
    go : (t : Bool) → eqb j k ≡ t → FirstIn ix (f + j) x (get_or (set near (f + k) v) (f + j) 0)
    go true t = let e : j ≡ k = eqb-true j k t in rw (e, get_or-set_same near (f + k) v 0 h) g
    go false t = let n = eqb-false j k t in rw (get_or-set_other near (f + k) (f + j) v 0 (omega arith)) (p j (omega arith))
