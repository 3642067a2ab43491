-- The area between two places of a row of readings from 0 to a limit: at most 2 ^ 18 times the limit. In units of the smallest value
-- (numeric/proofs/Bounds.antt).
use mathlib.Core.Path.{◌≡◌, refl, sym, ap, ◌∙◌, subst}
use mathlib.Core.Bool.{Bool, true, false, cond}
use mathlib.Core.List.{List}
use Prim.Native.Nat.{ℕ, zero, suc, ◌+◌, ◌-◌, ◌*◌, ◌≤◌, ◌<◌, min, zero-le}
use native.Mathlib.Nat.{sub-le, le_trans, le_of_eq, le_of_lt, mul_comm, mul-le-mul_right, mul-le-mul_left, add-mul, add-le-add}
use native.Mathlib.Omega.{arith}
use borrow.Author.Tests.{ltb-true, ltb-false, leb-true, leb-false, eqb-true, le-ltb}
use lib.Dec.{leb, ltb, eqb}
use lib.ListN.{length}
use lib.Ieee.{Float, lt, le}
use Rattle.numeric.specs.Arith.{◌⊕◌, ◌⊖◌, ◌⊗◌, 𝟎, ½, 𝟏, index_f, at}
use Rattle.numeric.specs.Numeric.{max_f, min_f, clamp_f, cast_f, lerp_f}
use Rattle.numeric.proofs.Bounds.{one, mag, Num, Rep, AtMost, one-pos, rep, lt-mag, le-mag, round-order, sub_is, add-at-most, sub-at-most, mul-at-most, mag-zero, mag-one, num-zero, num-one}
use Rattle.row_area.specs.Area.{height_at, strip, within, head, whole, tail, across, between, area_f}
use Rattle.row_laws.proofs.Signs.{sub-turned, add_turned, mul-turned}
use Rattle.row_laws.proofs.Whole.{num-index, mag-index, Segment, cast-segment}
use Rattle.row_laws.proofs.Heights.{no_nan, half_at_most}
use Rattle.row_laws.proofs.Crossings.{Place}

-- ---- shares
rep-one : Rep one
rep-one = subst Rep mag-one (rep 𝟏 num-one)

share-of : (t x : Float) → AtMost t one → Num x → AtMost (t ⊗ x) (mag x)
share-of t x T p = mul-at-most t x (mag x) T.0 p (rep x p) (le_trans (mul-le-mul_right (mag x) T.1) (le_of_eq (mul_comm one (mag x))))

of-share : (x t : Float) → Num x → AtMost t one → AtMost (x ⊗ t) (mag x)
of-share x t p T = mul-at-most x t (mag x) p T.0 (rep x p) (mul-le-mul_left (mag x) T.1)

sub_order : (x y s : Float) → Num x → Num y → Num s → mag s ≤ mag x → mag x ≤ mag y → mag (x ⊖ s) ≤ mag (y ⊖ s)
sub_order x y s X Y S a b =
    let m = mag x - mag s in
    let n = mag y - mag s in
    let l : mag s ≤ mag y = omega arith in
    let e = sub_is x s X S a in
    let f = sub_is y s Y S l in
    let d = sub-at-most y s (mag y) Y S (rep y Y) l (sub-le (mag y) (mag s)) in
    let o = round-order m one n one one-pos one-pos (mul-le-mul_right one (let k : m ≤ n = omega arith in k)) (subst Num f d.0) in
    le_trans (le_of_eq (ap mag e)) (le_trans o.1 (le_of_eq (ap mag (sym f))))

-- from sample s to sample s + 1
record Within (x : Float) (s : ℕ) : Type 0 where
  low : s * one ≤ mag x
  high : mag x ≤ (s + 1) * one

module _ (x : Float) (s : ℕ) (p : Num x) (short : s ≤ 16384) (w : Within x s) where
  from-sample : mag (index_f s) ≤ mag x
  from-sample = le_trans (le_of_eq (mag-index s (omega arith))) w.low

  share_in : AtMost (x ⊖ index_f s) one
  share_in =
      let m = mag-index s (omega arith) in
      let h = w.high in
      let d : (s + 1) * one ≡ s * one + 1 * one = add-mul s 1 one in
      sub-at-most x (index_f s) one p (num-index s (omega arith)) rep-one from-sample (omega arith)

-- ---- the parts of an area
module _ (z : List Float) (top : ℕ) (reps : (k : ℕ) → k < 16777216 → Rep (k * top)) (all : (k : ℕ) → k < length z → AtMost (at z k) top) (short : length z ≤ 16384) (long : 2 ≤ length z) where
  lerp-at-most : (a b t : Float) → AtMost a top → AtMost b top → AtMost t one → AtMost (lerp_f a b t) (2 * top)
  unfolding lerp_f
  lerp-at-most a b t A B T = go (ltb (mag b) (mag a)) refl
    where
      go : (c : Bool) → ltb (mag b) (mag a) ≡ c → AtMost (a ⊕ t ⊗ (b ⊖ a)) (2 * top)
      go true e =
          let l = ltb-true (mag b) (mag a) e in
          let d = sub-at-most a b (mag a) A.0 B.0 (rep a A.0) (le_of_lt l) (sub-le (mag a) (mag b)) in
          let u = share-of t (a ⊖ b) T d.0 in
          let s = sub-at-most a (t ⊗ (a ⊖ b)) (mag a) A.0 u.0 (rep a A.0) (le_trans u.1 d.1) (sub-le (mag a) (mag (t ⊗ (a ⊖ b)))) in
          let q = A.1 in
          let r = s.1 in
          subst (λ (x : Float). AtMost x (2 * top))
          (sym (ap (λ (x : Float). a ⊕ t ⊗ x) (sub-turned b a B.0 A.0 l) ∙ ap (λ (x : Float). a ⊕ x) (mul-turned t (a ⊖ b) T.0 d.0) ∙ add_turned a (t ⊗ (a ⊖ b))))
          (s.0, omega arith)
      go false e =
          let l = ltb-false (mag b) (mag a) e in
          let d = sub-at-most b a (mag b) B.0 A.0 (rep b B.0) l (sub-le (mag b) (mag a)) in
          let u = share-of t (b ⊖ a) T d.0 in
          let q = A.1 in
          let r = B.1 in
          let v = u.1 in
          let w = d.1 in
          add-at-most a (t ⊗ (b ⊖ a)) (2 * top) A.0 u.0 (reps 2 (omega arith)) (omega arith)

  height-at-most : (s : ℕ) (t : Float) → s + 1 < length z → AtMost t one → AtMost (height_at z s t) (2 * top)
  unfolding height_at
  height-at-most s t h T = lerp-at-most (at z s) (at z (s + 1)) t (all s (omega arith)) (all (s + 1) h) T

  reading-at-most : (s : ℕ) → s < length z → AtMost (at z s) (2 * top)
  reading-at-most s h = let a = all s h in let l = a.1 in (a.0, omega arith)

  half-most : (x : Float) (B : ℕ) → AtMost x B → AtMost (½ ⊗ x) B
  half-most x B h = let r = half_at_most x h.0 in let l = h.1 in let k = r.1 in (r.0, omega arith)

  strip-at-most : (p q w : Float) → AtMost p (2 * top) → AtMost q (2 * top) → AtMost w one → AtMost (strip p q w) (4 * top)
  unfolding strip
  strip-at-most p q w P Q W =
      let l = P.1 in
      let k = Q.1 in
      let s = half-most (p ⊕ q) (4 * top) (add-at-most p q (4 * top) P.0 Q.0 (reps 4 (omega arith)) (omega arith)) in
      let r = of-share (½ ⊗ (p ⊕ q)) w s.0 W in (r.0, le_trans r.1 s.1)

  -- a sum of j and k times the limit
  join : (x y : Float) (j k : ℕ) → j + k < 16777216 → AtMost x (j * top) → AtMost y (k * top) → AtMost (x ⊕ y) ((j + k) * top)
  join x y j k h X Y = add-at-most x y ((j + k) * top) X.0 Y.0 (reps (j + k) h) (le_trans (add-le-add X.1 Y.1) (le_of_eq (sym (add-mul j k top))))

  within-at-most : (s : ℕ) (x0 x1 : Float) → s + 1 < length z → Num x0 → Num x1 → Within x0 s → Within x1 s → mag x0 ≤ mag x1 → AtMost (within z s x0 x1) (4 * top)
  unfolding within
  within-at-most s x0 x1 h p q a b l =
      let t0 = share_in x0 s p (omega arith) a in
      let t1 = share_in x1 s q (omega arith) b in
      let o = sub_order x0 x1 (index_f s) p q (num-index s (omega arith)) (from-sample x0 s p (omega arith) a) l in
      let w = sub-at-most (x1 ⊖ index_f s) (x0 ⊖ index_f s) one t1.0 t0.0 rep-one o (le_trans (sub-le (mag (x1 ⊖ index_f s)) (mag (x0 ⊖ index_f s))) t1.1) in
      strip-at-most (height_at z s (x0 ⊖ index_f s)) (height_at z s (x1 ⊖ index_f s)) ((x1 ⊖ index_f s) ⊖ (x0 ⊖ index_f s))
      (height-at-most s (x0 ⊖ index_f s) h t0) (height-at-most s (x1 ⊖ index_f s) h t1) w

  head-at-most : (s : ℕ) (x : Float) → s + 1 < length z → Num x → Within x s → AtMost (head z s x) (4 * top)
  unfolding head
  head-at-most s x h p a =
      let t = share_in x s p (omega arith) a in
      let l = t.1 in
      let w = sub-at-most 𝟏 (x ⊖ index_f s) one num-one t.0 rep-one (le_trans l (le_of_eq (sym mag-one))) (le_trans (sub-le (mag 𝟏) (mag (x ⊖ index_f s))) (le_of_eq mag-one)) in
      join 𝟎 (strip (height_at z s (x ⊖ index_f s)) (at z (s + 1)) (𝟏 ⊖ (x ⊖ index_f s))) 0 4 (omega arith) (num-zero, rw mag-zero zero-le)
      (strip-at-most (height_at z s (x ⊖ index_f s)) (at z (s + 1)) (𝟏 ⊖ (x ⊖ index_f s)) (height-at-most s (x ⊖ index_f s) h t) (reading-at-most (s + 1) h) w)

  whole-at-most : (k s : ℕ) (a : Float) (j : ℕ) → s + k < length z → j + 2 * k < 16777216 → AtMost a (j * top) → AtMost (whole z k s a) ((j + 2 * k) * top)
  unfolding whole
  whole-at-most zero s a j h r A = let e : j + 2 * 0 ≡ j = omega arith in rw e A
  whole-at-most (suc k) s a j h r A =
      let p = all s (omega arith) in
      let q = all (s + 1) (omega arith) in
      let l = p.1 in
      let m = q.1 in
      let t = half-most (at z s ⊕ at z (s + 1)) (2 * top) (add-at-most (at z s) (at z (s + 1)) (2 * top) p.0 q.0 (reps 2 (omega arith)) (omega arith)) in
      let e : j + 2 + 2 * k ≡ j + 2 * suc k = omega arith in
      subst (λ (c : ℕ). AtMost (whole z k (s + 1) (a ⊕ ½ ⊗ (at z s ⊕ at z (s + 1)))) (c * top)) e
      (whole-at-most k (s + 1) (a ⊕ ½ ⊗ (at z s ⊕ at z (s + 1))) (j + 2) (omega arith) (omega arith) (join a (½ ⊗ (at z s ⊕ at z (s + 1))) j 2 (omega arith) A t))

  tail-at-most : (s : ℕ) (x a : Float) (j : ℕ) → j + 4 < 16777216 → s ≤ 16384 → Num x → Within x s → AtMost a (j * top) → AtMost (tail z s x a) ((j + 4) * top)
  unfolding tail
  tail-at-most s x a j r c p w A = go (leb s (length z - 2)) refl
    where
      go : (b : Bool) → leb s (length z - 2) ≡ b → AtMost (cond b (a ⊕ strip (at z s) (height_at z s (x ⊖ index_f s)) (x ⊖ index_f s)) a) ((j + 4) * top)
      go true e =
          let l = leb-true s (length z - 2) e in
          let t = share_in x s p c w in
          join a (strip (at z s) (height_at z s (x ⊖ index_f s)) (x ⊖ index_f s)) j 4 r A
          (strip-at-most (at z s) (height_at z s (x ⊖ index_f s)) (x ⊖ index_f s) (reading-at-most s (omega arith)) (height-at-most s (x ⊖ index_f s) (omega arith) t) t)
      go false e = (A.0, le_trans A.1 (mul-le-mul_right top (let l : j ≤ j + 4 = omega arith in l)))

  -- ---- an area as a whole
  loose : (x : Float) (k : ℕ) → k ≤ 262144 → AtMost x (k * top) → AtMost x (262144 * top)
  loose x k h a = (a.0, le_trans a.1 (mul-le-mul_right top h))

  module _ (x0 x1 : Float) (P : Place x0 0 (length z - 1)) (Q : Place x1 0 (length z - 1)) where
    cell : (x : Float) → Place x 0 (length z - 1) → Segment x (cast_f x) × (cast_f x ≤ length z - 1)
    cell x p = cast-segment x p.num (length z - 1) (omega arith) p.high

    -- the last sample belongs to the segment before it
    held : (x : Float) → Place x 0 (length z - 1) → (g : ℕ) → cast_f x ≡ g → Within x (min g (length z - 2))
    held x p g e = go (leb g (length z - 2)) refl
      where
        s : Segment x g
        s = subst (Segment x) e (cell x p).0

        go : (b : Bool) → leb g (length z - 2) ≡ b → Within x (min g (length z - 2))
        go true t =
            let l = leb-true g (length z - 2) t in
            let m : g ≡ min g (length z - 2) = omega arith in
            subst (Within x) m (record { low = s.low; high = le_of_lt s.high })
        go false t =
            let l = leb-false g (length z - 2) t in
            let m : length z - 2 ≡ min g (length z - 2) = omega arith in
            let k : length z - 2 + 1 ≡ length z - 1 = omega arith in
            subst (Within x) m (record { low = le_trans (mul-le-mul_right one (let o : length z - 2 ≤ g = omega arith in o)) s.low; high = rw k p.high })

    between-at-most : AtMost (between z x0 x1) (262144 * top)
    unfolding between across
    between-at-most = go (le x1 x0) (le-mag x1 x0 Q.num P.num) (eqb (cast_f x0) (cast_f x1)) refl
      where
        go : (b : Bool) → b ≡ leb (mag x1) (mag x0) → (c : Bool) → eqb (cast_f x0) (cast_f x1) ≡ c
            → AtMost (cond b 𝟎 (cond c (within z (min (cast_f x0) (length z - 2)) x0 x1)
            (tail z (cast_f x1) x1 (whole z (min (cast_f x1) (length z - 2) - (min (cast_f x0) (length z - 2) + 1)) (min (cast_f x0) (length z - 2) + 1) (head z (min (cast_f x0) (length z - 2)) x0))))) (262144 * top)
        go true d c e = (num-zero, rw mag-zero zero-le)
        go false d true e =
            let l = leb-false (mag x1) (mag x0) (sym d) in
            loose (within z (min (cast_f x0) (length z - 2)) x0 x1) 4 (omega arith)
            (within-at-most (min (cast_f x0) (length z - 2)) x0 x1 (omega arith) P.num Q.num (held x0 P (cast_f x0) refl) (held x1 Q (cast_f x0) (sym (eqb-true (cast_f x0) (cast_f x1) e))) (le_of_lt l))
        go false d false e =
            let i = min (cast_f x0) (length z - 2) in
            let k = min (cast_f x1) (length z - 2) - (i + 1) in
            let c = cell x1 Q in
            let u = c.1 in
            let h = head-at-most i x0 (omega arith) P.num (held x0 P (cast_f x0) refl) in
            let w = whole-at-most k (i + 1) (head z i x0) 4 (omega arith) (omega arith) h in
            loose (tail z (cast_f x1) x1 (whole z k (i + 1) (head z i x0))) (4 + 2 * k + 4) (omega arith)
            (tail-at-most (cast_f x1) x1 (whole z k (i + 1) (head z i x0)) (4 + 2 * k) (omega arith) (omega arith) Q.num (record { low = c.0.low; high = le_of_lt c.0.high }) w)

    -- ---- neither place is moved
    last : Num (index_f (length z - 1))
    last = num-index (length z - 1) (omega arith)

    to_last : (x : Float) → Place x 0 (length z - 1) → mag x ≤ mag (index_f (length z - 1))
    to_last x p = le_trans p.high (le_of_eq (sym (mag-index (length z - 1) (omega arith))))

    not-under : (x : Float) → Num x → lt x 𝟎 ≡ false
    not-under x p = lt-mag x 𝟎 p num-zero ∙ le-ltb (mag x) (mag 𝟎) (rw mag-zero zero-le)

    not-over : (x : Float) → Place x 0 (length z - 1) → lt (index_f (length z - 1)) x ≡ false
    not-over x p = lt-mag (index_f (length z - 1)) x last p.num ∙ le-ltb (mag (index_f (length z - 1))) (mag x) (to_last x p)

    low-stays : max_f x0 𝟎 ≡ x0
    unfolding max_f
    low-stays = rw (no_nan x0 P.num, not-under x0 P.num)

    high-stays : min_f x1 (index_f (length z - 1)) ≡ x1
    unfolding min_f
    high-stays = rw (no_nan x1 Q.num, not-over x1 Q)

    clamp-stays : (x : Float) → Place x 0 (length z - 1) → clamp_f x 𝟎 (index_f (length z - 1)) ≡ x
    unfolding clamp_f
    clamp-stays x p = rw (not-under x p.num, not-over x p)

    pub area-at-most : AtMost (area_f z (max_f x0 𝟎) (min_f x1 (index_f (length z - 1)))) (262144 * top)
    unfolding area_f
    area-at-most =
        rw (low-stays, high-stays, le-ltb (length z) 2 long, clamp-stays x0 P, clamp-stays x1 Q) between-at-most
