-- What holds of the passes: every peak is in a group, whose number the column has, and every owner is a stitched peak.
use mathlib.Core.Path.{◌≡◌, refl, sym, ap, subst, ◌∙◌}
use mathlib.Core.Bool.{Bool, true, false, cond, ◌||◌}
use mathlib.Core.List.Memᴰ
use mathlib.Core.List.{List, [], ◌∷◌, ◌++◌, map, map-append, map-map, flatten, Memᴰ}
use mathlib.Core.List.Memᴰ.{head as here}
use mathlib.Core.List.Memᴰ.{tail as there}
use mathlib.Core.Logic.{⊎_elim}
use Prim.Native.Nat.{ℕ, zero, suc, ◌+◌, ◌<◌, ◌≤◌}
use native.Mathlib.Omega.{arith}
use borrow.Author.Tests.{eqb-true, eqb-false}
use lib.Dec.{eqb}
use lib.ListN.{length, get_or, take, drop, length-drop, length-map, take-append-drop, get_or-append}
use lib.Seq.{take_at, drop_at, ext_get_or, get_or-drop, get_or-append_seam}
use Rattle.refusal.proofs.Bools.{clash}
use Rattle.row_record.specs.declared.ImPeak1D.{ImPeak1D}
use Rattle.stitch_peaks.specs.PeakList.{nth}
use Rattle.sort_digits.specs.Sorted.{up_to}
use Rattle.sort_digits.proofs.SortedLaws.{sort-length, sort-keeps, sort-given, sort-distinct}
use Rattle.sort_digits.proofs.UpTo.{upto-length, upto-lt, upto-has, upto-distinct, front-map}
use Rattle.stitch_matching.specs.declared.StitchParams.{StitchParams}
use Rattle.stitch_keys.specs.declared.KeyRule.{KeyRule}
use Rattle.stitch_keys.specs.declared.KeyRule.TheVariants.{First, Second}
use Rattle.stitch_keys.specs.Keys.{key_of}
use Rattle.stitch_merging.specs.Merging.{merged}
use Rattle.stitch_grouping.specs.Grouping.{peaks_at, groups, group_peaks, pass_order, pass_groups, has, number_in}
use Rattle.stitch_grouping.specs.Walk.{marked}
use Rattle.stitch_grouping.proofs.GroupingLaws.{groups-flatten, groups-count, marked-length, member-number, other-number}
use Rattle.stitch_passes.specs.Stitching.{first_groups, first_peaks, second_groups, stitched, owner_of}
use Rattle.stitch_passes.specs.PassLaws.{EachGrouped, EachNumbered, EachOwned, FewStitched}

-- ---- columns

map-length : (f : ℕ → ℕ) (n : ℕ) → length (map f (up_to n)) ≡ n
map-length f n = length-map (up_to n) f ∙ upto-length n

-- ---- the group that has a place

pub has-true : (g : List ℕ) (p : ℕ) → has g p ≡ true → Memᴰ p g
unfolding has
has-true [] p h = clash false h refl
has-true (q ∷ g) p h = go (eqb p q) refl (has-true g p) h
  where
    go : (b : Bool) → eqb p q ≡ b → (has g p ≡ true → Memᴰ p g) → (b || has g p) ≡ true → Memᴰ p (q ∷ g)
    go true e i h = here (eqb-true p q e)
    go false e i h = there (i h)

pub has-false : (g : List ℕ) (p : ℕ) → has g p ≡ false → Memᴰ p g → ⊥
unfolding has
has-false [] p h m = Memᴰ.not-nil m
has-false (q ∷ g) p h m = go (eqb p q) refl (has-false g p) h
  where
    go : (b : Bool) → eqb p q ≡ b → (has g p ≡ false → Memᴰ p g → ⊥) → (b || has g p) ≡ false → ⊥
    go true e i h = clash true refl h
    go false e i h = ⊎_elim (eqb-false p q e) (i h) (Memᴰ.cases_cons m)

pub number-has : (gs : List (List ℕ)) (p : ℕ) → Memᴰ p (flatten gs) → Memᴰ p (get_or gs (number_in gs p) []) × (number_in gs p < length gs)
unfolding number_in flatten
number-has [] p m = absurd (Memᴰ.not-nil m)
number-has (g ∷ gs) p m = go (has g p) refl (number-has gs p)
  where
    go : (b : Bool) → has g p ≡ b → (Memᴰ p (flatten gs) → Memᴰ p (get_or gs (number_in gs p) []) × (number_in gs p < length gs))
        → Memᴰ p (get_or (g ∷ gs) (cond b 0 (suc (number_in gs p))) []) × (cond b 0 (suc (number_in gs p)) < length (g ∷ gs))
    go true e i = (has-true g p e, omega arith)
    go false e i =
        let r = i (⊎_elim (λ k. absurd (has-false g p e k)) (λ k. k) (Memᴰ.append_cases g m)) in
        (r.0, omega (arith, r.1))

-- ---- a pass

module _ (rule : KeyRule) (params : StitchParams) (ps : List ImPeak1D) where
  pub order-length : length (pass_order rule ps) ≡ length ps
  order-length = sort-length (λ k. key_of rule (nth ps k)) (up_to (length ps)) ∙ upto-length (length ps)

  pub order_lt : (k : ℕ) → Memᴰ k (pass_order rule ps) → k < length ps
  order_lt k m = upto-lt (length ps) k (sort-given (λ j. key_of rule (nth ps j)) (up_to (length ps)) k m)

  -- at most as many groups as peaks
  pub pass-count : length (pass_groups rule params ps) ≤ length ps
  unfolding pass_groups
  pass-count = omega (arith, groups-count rule params ps (pass_order rule ps), order-length)

  -- a peak and the group that has it
  pass-has : (k : ℕ) → k < length ps → Memᴰ k (get_or (pass_groups rule params ps) (number_in (pass_groups rule params ps) k) []) × (number_in (pass_groups rule params ps) k < length (pass_groups rule params ps))
  unfolding pass_groups
  pass-has k h =
      number-has (groups rule params ps (pass_order rule ps)) k
      (subst (Memᴰ k) (sym (groups-flatten rule params ps (pass_order rule ps))) (sort-keeps (λ j. key_of rule (nth ps j)) (up_to (length ps)) k (upto-has (length ps) k h)))

pub pass-group : EachGrouped
pass-group rule params ps k h = (pass-has rule params ps k h).0

pub pass-number : EachNumbered
pass-number rule params ps k h = (pass-has rule params ps k h).1

-- the column of the pass
module _ (rule : KeyRule) (params : StitchParams) (ps : List ImPeak1D) where
  module _ (column : List ℕ) (room : length ps ≤ length column) where
    front-column : take (length ps) (marked 0 (pass_groups rule params ps) column) ≡ map (number_in (pass_groups rule params ps)) (up_to (length ps))
    unfolding pass_groups
    front-column =
        let order = pass_order rule ps in
        front-map (marked 0 (groups rule params ps order) column) 0 (number_in (groups rule params ps order)) (length ps)
        (omega (arith, marked-length 0 (groups rule params ps order) column))
        (λ k h. member-number rule params ps order column k (sort-distinct (λ j. key_of rule (nth ps j)) (up_to (length ps)) (upto-distinct (length ps))) (omega arith) (number_in (groups rule params ps order) k) (pass-group rule params ps k h))

    back-column : drop (length ps) (marked 0 (pass_groups rule params ps) column) ≡ drop (length ps) column
    unfolding pass_groups
    back-column =
        let order = pass_order rule ps in
        let made = marked 0 (groups rule params ps order) column in
        ext_get_or 0 (drop (length ps) made) (drop (length ps) column) (simp (length-drop, marked-length))
        (λ k h. get_or-drop (length ps) made k 0 ∙ other-number rule params ps order column (length ps + k) (λ m. let l = order_lt rule params ps (length ps + k) m in absurd (omega arith)) ∙ sym (get_or-drop (length ps) column k 0))

    pub pass-column : (start : List ℕ) → drop (length ps) column ≡ drop (length ps) start
        → marked 0 (pass_groups rule params ps) column ≡ map (number_in (pass_groups rule params ps)) (up_to (length ps)) ++ drop (length ps) start
    pass-column start e =
        let made = marked 0 (pass_groups rule params ps) column in
        sym (take-append-drop (length ps) made) ∙ ap (λ (x : List ℕ). x ++ drop (length ps) made) front-column ∙ ap (λ (x : List ℕ). map (number_in (pass_groups rule params ps)) (up_to (length ps)) ++ x) (back-column ∙ e)

-- ---- both passes

pub first-length : (params : StitchParams) (ps : List ImPeak1D) → length (first_peaks params ps) ≡ length (first_groups params ps)
unfolding group_peaks
first-length params ps = length-map (first_groups params ps) (λ g. merged (peaks_at ps g))

pub stitched-length : (params : StitchParams) (ps : List ImPeak1D) → length (stitched params ps) ≡ length (second_groups params ps)
unfolding stitched group_peaks
stitched-length params ps = length-map (second_groups params ps) (λ g. merged (peaks_at (first_peaks params ps) g))

-- at most as many stitched peaks as peaks
pub stitched-count : FewStitched
stitched-count params ps =
    omega (arith, stitched-length params ps, pass-count Second params (first_peaks params ps), first-length params ps, pass-count (First params) params ps)

-- every owner is one of the stitched peaks
pub owner-lt : EachOwned
unfolding owner_of
owner-lt params ps k h =
    rw (stitched-length params ps)
    (pass-number Second params (first_peaks params ps) (number_in (first_groups params ps) k) (rw (first-length params ps) (pass-number (First params) params ps k h)))

-- ---- numbers of numbers

at_map : (f : ℕ → ℕ) (n k : ℕ) → k < n → get_or (map f (up_to n)) k 0 ≡ f k
unfolding up_to
at_map f zero k h = absurd (omega arith)
at_map f (suc n) k h = ap (λ (l : List ℕ). get_or l k 0) (map-append f (up_to n) (n ∷ [])) ∙ go (eqb k n) refl (at_map f n k)
  where
    go : (b : Bool) → eqb k n ≡ b → (k < n → get_or (map f (up_to n)) k 0 ≡ f k) → get_or (map f (up_to n) ++ (f n ∷ [])) k 0 ≡ f k
    go true e i =
        let l : length (map f (up_to n)) ≡ k = map-length f n ∙ sym (eqb-true k n e) in
        ap (λ (j : ℕ). get_or (map f (up_to n) ++ (f n ∷ [])) j 0) (sym l) ∙ get_or-append_seam (map f (up_to n)) (f n) [] 0 ∙ ap f (sym (eqb-true k n e))
    go false e i =
        let d = eqb-false k n e in
        let l : k < n = omega arith in
        get_or-append (map f (up_to n)) (f n ∷ []) 0 k (rw (map-length f n) l) ∙ i l

module _ (f : ℕ → ℕ) (n : ℕ) (rest : List ℕ) where
  pub column-at : (k : ℕ) → k < n → get_or (map f (up_to n) ++ rest) k 0 ≡ f k
  column-at k h = get_or-append (map f (up_to n)) rest 0 k (rw (map-length f n) h) ∙ at_map f n k h

  pub column-rest : drop n (map f (up_to n) ++ rest) ≡ rest
  column-rest = drop_at (map f (up_to n)) rest n (map-length f n)

  -- in place of each number of a column, what another column has there
  pub handed : (l : List ℕ) → map (λ k. get_or l k 0) (take n (map f (up_to n) ++ rest)) ++ drop n (map f (up_to n) ++ rest) ≡ map (λ k. get_or l (f k) 0) (up_to n) ++ rest
  handed l =
      ap (λ (x : List ℕ). map (λ k. get_or l k 0) x ++ drop n (map f (up_to n) ++ rest)) (take_at (map f (up_to n)) rest n (map-length f n))
      ∙ ap (λ (x : List ℕ). x ++ drop n (map f (up_to n) ++ rest)) (map-map (λ k. get_or l k 0) f (up_to n))
      ∙ ap (λ (x : List ℕ). map (λ k. get_or l (f k) 0) (up_to n) ++ x) column-rest
