-- The points of a frame's view: those that have a bin, by rising bin.
use mathlib.Core.Path.{◌≡◌, refl, sym, ap, ◌∙◌}
use mathlib.Core.Bool.{Bool, true, false, cond, not}
use mathlib.Core.List.{List, [], ◌∷◌, ◌++◌, map, append-nil, Memᴰ}
use mathlib.Core.List.Memᴰ.{head as here}
use mathlib.Core.List.Memᴰ.{tail as there}
use Prim.Native.Nat.{ℕ, zero, suc, ◌+◌, ◌-◌, ◌<◌, ◌≤◌}
use native.Mathlib.Omega.{arith}
use borrow.Author.Tests.{eqb-true, eqb-false, eq-eqb, ne_eqb, ltb-false, lt-ltb, leb-true, le-leb}
use lib.Dec.{eqb, ltb, leb}
use lib.ListN.{length, get_or}
use lib.Seq.{get_or-take}
use Rattle.refusal.proofs.Bools.{both}
use Rattle.limits.specs.Limits.{last_row}
use Rattle.row_params.specs.Params.{all_up_to, rising, rising_from}
use Rattle.tof_scale.specs.declared.TofScale.{TofScale}
use Rattle.tof_scale.specs.Tof.{Sound, in_scale, bin_of}
use Rattle.tof_scale.proofs.TofLaws.{bins-held, bin-below}
use Rattle.sort_digits.specs.Sorted.{lex_lt, inserted, sorted_by, up_to, Ascending}
use Rattle.sort_digits.proofs.SortedLaws.{sort-ascending, sort-length, successor}
use Rattle.sort_digits.proofs.UpTo.{upto-length}
use Rattle.frames_bins.specs.FrameBins.{no_bin, bin_or_none, point_bins, kept_to, kept, by_bin, places_of, is_new, distinct_to, sorted_bins, view_bins}
use Rattle.frames_bins.proofs.Laws.{kept-le, places-length, bins-at}

-- ---- how many of some places have a bin

module _ (bin : ℕ → ℕ) where
  abbrev one : ℕ → ℕ
  one p = cond (eqb (bin p) no_bin) 0 1

  unfoldable pub with_bin : List ℕ → ℕ
  with_bin [] = 0
  with_bin (p ∷ ps) = one p + with_bin ps

  pub with_append : (ps qs : List ℕ) → with_bin (ps ++ qs) ≡ with_bin ps + with_bin qs
  unfolding with_bin
  with_append [] qs = omega arith
  with_append (p ∷ ps) qs = omega (arith, with_append ps qs)

  pub with-one : (p : ℕ) → with_bin (p ∷ []) ≡ one p
  unfolding with_bin
  with-one p = omega arith

  -- sorting keeps the count
  with-inserted : (key : ℕ → List ℕ) (p : ℕ) (qs : List ℕ) → with_bin (inserted key p qs) ≡ one p + with_bin qs
  unfolding with_bin inserted
  with-inserted key p [] = refl
  with-inserted key p (q ∷ qs) = go (lex_lt (key q) (key p)) (with-inserted key p qs)
    where
      go : (t : Bool) → with_bin (inserted key p qs) ≡ one p + with_bin qs → with_bin (cond t (q ∷ inserted key p qs) (p ∷ (q ∷ qs))) ≡ one p + (one q + with_bin qs)
      go true e = omega (arith, e)
      go false e = refl

  pub with-sorted : (key : ℕ → List ℕ) (ps : List ℕ) → with_bin (sorted_by key ps) ≡ with_bin ps
  unfolding with_bin sorted_by
  with-sorted key [] = refl
  with-sorted key (p ∷ ps) = with-inserted key p (sorted_by key ps) ∙ ap (λ (n : ℕ). one p + n) (with-sorted key ps)

  with_none : (ps : List ℕ) → ((q : ℕ) → Memᴰ q ps → bin q ≡ no_bin) → with_bin ps ≡ 0
  unfolding with_bin
  with_none [] h = refl
  with_none (p ∷ ps) h = rw (eq-eqb (bin p) no_bin (h p (here refl)), with_none ps (λ q m. h q (there m)))

  -- a place that does not come before another has no lower bin
  pub no_lower : (p q : ℕ) → lex_lt (bin q ∷ []) (bin p ∷ []) ≡ false → bin p ≤ bin q
  unfolding lex_lt
  no_lower p q h = go (eqb (bin q) (bin p)) refl h
    where
      go : (t : Bool) → eqb (bin q) (bin p) ≡ t → cond t false (ltb (bin q) (bin p)) ≡ false → bin p ≤ bin q
      go true e k = omega (arith, eqb-true (bin q) (bin p) e)
      go false e k = ltb-false (bin q) (bin p) k

  -- of places in the order of their bins those with a bin come first
  pub front-bins : (ps : List ℕ) → ((p : ℕ) → bin p ≤ no_bin) → Ascending (λ p. bin p ∷ []) ps → (k : ℕ) → k < with_bin ps → bin (get_or ps k 0) < no_bin
  unfolding with_bin
  front-bins [] most a k h = absurd (omega arith)
  front-bins (p ∷ ps) most a k h = go (eqb (bin p) no_bin) refl k h (front-bins ps most a.1)
    where
      rest : eqb (bin p) no_bin ≡ true → with_bin ps ≡ 0
      rest e = with_none ps (λ q m. let x = eqb-true (bin p) no_bin e in omega (arith, no_lower p q (a.0 q m), most q))

      go : (t : Bool) → eqb (bin p) no_bin ≡ t → (j : ℕ) → j < cond t 0 1 + with_bin ps → ((i : ℕ) → i < with_bin ps → bin (get_or ps i 0) < no_bin) → bin (get_or (p ∷ ps) j 0) < no_bin
      go true e j l f = absurd (omega (arith, rest e))
      go false e zero l f = let x = eqb-false (bin p) no_bin e in let y : bin p ≤ no_bin = most p in omega arith
      go false e (suc j) l f = f j (omega arith)

-- ---- the bins of a frame's points

point-le : (s : TofScale) → Sound s → (t : ℕ) → bin_or_none s t ≤ no_bin
unfolding bin_or_none
point-le s h t = go (in_scale s t) refl
  where
    go : (b : Bool) → in_scale s t ≡ b → cond b (bin_of s t) no_bin ≤ no_bin
    go true e = omega (arith, bin-below s h t e, (bins-held s h).1)
    go false e = omega arith

pub bins-le : (s : TofScale) → Sound s → (tofs : List ℕ) (p : ℕ) → get_or (point_bins s tofs) p 0 ≤ no_bin
unfolding point_bins
bins-le s h [] p = omega arith
bins-le s h (t ∷ ts) zero = point-le s h t
bins-le s h (t ∷ ts) (suc p) = bins-le s h ts p

module _ (bins : List ℕ) where
  abbrev bin_at : ℕ → ℕ
  bin_at p = get_or bins p 0

  abbrev key_of : ℕ → List ℕ
  key_of p = bin_at p ∷ []

  kept-is : (n : ℕ) → with_bin bin_at (up_to n) ≡ kept_to bins n
  unfolding with_bin up_to kept_to
  kept-is zero = refl
  kept-is (suc n) = with_append bin_at (up_to n) (n ∷ []) ∙ omega (arith, kept-is n, with-one bin_at n)

  by-bin-length : length (by_bin bins) ≡ length bins
  by-bin-length = sort-length key_of (up_to (length bins)) ∙ upto-length (length bins)

  -- the k-th of the sorted bins is that of the k-th place
  bin-of-place : (k : ℕ) → k < kept bins → get_or (sorted_bins bins) k 0 ≡ bin_at (get_or (by_bin bins) k 0)
  unfolding places_of
  bin-of-place k h =
      sym (bins-at bins (places_of bins) k (omega (arith, places-length bins))) ∙ ap bin_at (get_or-take (kept bins) (by_bin bins) k 0 h)

  -- they are bins, and never fall
  pub sorted-below : ((p : ℕ) → bin_at p ≤ no_bin) → (k : ℕ) → k < kept bins → get_or (sorted_bins bins) k 0 < no_bin
  sorted-below most k h =
      let n : with_bin bin_at (by_bin bins) ≡ kept bins = with-sorted bin_at key_of (up_to (length bins)) ∙ kept-is (length bins) in
      rw (bin-of-place k h) (front-bins bin_at (by_bin bins) most (sort-ascending key_of (up_to (length bins))) k (omega arith))

  pub sorted-up : (k : ℕ) → k + 1 < kept bins → get_or (sorted_bins bins) k 0 ≤ get_or (sorted_bins bins) (k + 1) 0
  sorted-up k h =
      rw (bin-of-place k (omega arith), bin-of-place (k + 1) h)
      (no_lower bin_at (get_or (by_bin bins) k 0) (get_or (by_bin bins) (k + 1) 0)
      (successor key_of (by_bin bins) (sort-ascending key_of (up_to (length bins))) k (omega (arith, by-bin-length, kept-le bins (length bins)))))

-- ---- lists of numbers up to a limit

pub up-to-wider : (a b : ℕ) (l : List ℕ) → a ≤ b → all_up_to a l ≡ true → all_up_to b l ≡ true
unfolding all_up_to
up-to-wider a b [] h e = refl
up-to-wider a b (x ∷ xs) h e =
    let p = both (leb x a) e in
    let m = leb-true x a p.0 in
    rw (le-leb x b (omega arith), up-to-wider a b xs h p.1)

pub up-to-append : (a : ℕ) (l m : List ℕ) → all_up_to a l ≡ true → all_up_to a m ≡ true → all_up_to a (l ++ m) ≡ true
unfolding all_up_to
up-to-append a [] m e f = f
up-to-append a (x ∷ xs) m e f = let p = both (leb x a) e in rw (p.0, up-to-append a xs m p.1 f)

pub up-to-one : (a x : ℕ) → x ≤ a → all_up_to a (x ∷ []) ≡ true
unfolding all_up_to
up-to-one a x h = rw (le-leb x a h)

pub up-to-map : (a : ℕ) (f : ℕ → ℕ) (l : List ℕ) → ((p : ℕ) → f p ≤ a) → all_up_to a (map f l) ≡ true
unfolding all_up_to
up-to-map a f [] h = refl
up-to-map a f (p ∷ ps) h = rw (le-leb (f p) a (h p), up-to-map a f ps h)

-- a rising list, and a number above all of it
from-snoc : (s m v : ℕ) (l : List ℕ) → rising_from s l ≡ true → s ≤ m → all_up_to m l ≡ true → m < v → rising_from s (l ++ (v ∷ [])) ≡ true
unfolding rising_from all_up_to
from-snoc s m v [] r h e b = rw (lt-ltb s v (omega arith))
from-snoc s m v (t ∷ ts) r h e b =
    let p = both (ltb s t) r in
    let q = both (leb t m) e in
    rw (p.0, from-snoc t m v ts p.1 (leb-true t m q.0) q.1 b)

rising_snoc : (m v : ℕ) (l : List ℕ) → rising l ≡ true → all_up_to m l ≡ true → m < v → rising (l ++ (v ∷ [])) ≡ true
unfolding rising rising_from all_up_to
rising_snoc m v [] r e b = refl
rising_snoc m v (s ∷ ss) r e b = let p = both (leb s m) e in from-snoc s m v ss r (leb-true s m p.0) p.1 b

-- ---- distinct ones of bins that never fall

module _ (bs : List ℕ) where
  -- the first ones, to place j, rise, and none is above the bin there
  abbrev RisesTo : ℕ → Type 0
  RisesTo j = (rising (distinct_to bs (suc j)) ≡ true) × (all_up_to (get_or bs j 0) (distinct_to bs (suc j)) ≡ true)

  rises-start : RisesTo 0
  unfolding distinct_to rising rising_from
  rises-start = (refl, up-to-one (get_or bs 0 0) (get_or bs 0 0) (omega arith))

  new-or-same : (j : ℕ) → is_new bs (suc j) ≡ not (eqb (get_or bs (suc j) 0) (get_or bs j 0))
  new-or-same j = let e : suc j - 1 ≡ j = omega arith in rw (ne_eqb (suc j) 0 (λ z. absurd (omega arith)), e)

  rises-more : (j : ℕ) → get_or bs j 0 ≤ get_or bs (suc j) 0 → RisesTo j → RisesTo (suc j)
  unfolding distinct_to
  rises-more j up r = go (eqb (get_or bs (suc j) 0) (get_or bs j 0)) refl (new-or-same j)
    where
      go : (t : Bool) → eqb (get_or bs (suc j) 0) (get_or bs j 0) ≡ t → is_new bs (suc j) ≡ not (eqb (get_or bs (suc j) 0) (get_or bs j 0)) → RisesTo (suc j)
      go true e n = let x : get_or bs (suc j) 0 ≡ get_or bs j 0 = eqb-true (get_or bs (suc j) 0) (get_or bs j 0) e in rw (n, e, append-nil, x) r
      go false e n =
          let x = eqb-false (get_or bs (suc j) 0) (get_or bs j 0) e in
          rw (n, e) (
            rising_snoc (get_or bs j 0) (get_or bs (suc j) 0) (distinct_to bs (suc j)) r.0 r.1 (omega arith),
            up-to-append (get_or bs (suc j) 0) (distinct_to bs (suc j)) (get_or bs (suc j) 0 ∷ [])
                (up-to-wider (get_or bs j 0) (get_or bs (suc j) 0) (distinct_to bs (suc j)) up r.1)
                (up-to-one (get_or bs (suc j) 0) (get_or bs (suc j) 0) (omega arith)),
          )

  rises-all : (n : ℕ) → ((k : ℕ) → k + 1 < n → get_or bs k 0 ≤ get_or bs (k + 1) 0) → (j : ℕ) → j < n → RisesTo j
  rises-all n up zero h = rises-start
  rises-all n up (suc j) h = let e : j + 1 ≡ suc j = omega arith in rises-more j (rw e at (up j (omega arith))) (rises-all n up j (omega arith))

  pub distinct-rise : (n : ℕ) → ((k : ℕ) → k + 1 < n → get_or bs k 0 ≤ get_or bs (k + 1) 0) → rising (distinct_to bs n) ≡ true
  unfolding distinct_to rising
  distinct-rise zero up = refl
  distinct-rise (suc n) up = (rises-all (suc n) up n (omega arith)).0

  pub distinct-most : (n m : ℕ) → ((k : ℕ) → k + 1 < n → get_or bs k 0 ≤ get_or bs (k + 1) 0) → ((k : ℕ) → k < n → get_or bs k 0 ≤ m) → all_up_to m (distinct_to bs n) ≡ true
  unfolding distinct_to all_up_to
  distinct-most zero m up most = refl
  distinct-most (suc n) m up most = up-to-wider (get_or bs n 0) m (distinct_to bs (suc n)) (most n (omega arith)) (rises-all (suc n) up n (omega arith)).1

-- ---- the bins of a frame's view

module _ (s : TofScale) (h : Sound s) (tofs : List ℕ) where
  abbrev points_bins : List ℕ
  points_bins = point_bins s tofs

  pub view-rises : rising (view_bins points_bins) ≡ true
  unfolding view_bins
  view-rises = distinct-rise (sorted_bins points_bins) (kept points_bins) (sorted-up points_bins)

  pub view-most : all_up_to last_row (view_bins points_bins) ≡ true
  unfolding view_bins
  view-most =
      distinct-most (sorted_bins points_bins) (kept points_bins) last_row (sorted-up points_bins)
      (λ k l. omega (arith, sorted-below points_bins (bins-le s h tofs) k l))
