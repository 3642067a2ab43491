-- The input peaks that the two passes bring into a stitched peak: each peak into one, which has their extremes.
use mathlib.Core.Path.{◌≡◌, refl, sym, ap, subst, ◌∙◌}
use mathlib.Core.Bool.{Bool, true, false, cond}
use mathlib.Core.List.Memᴰ
use mathlib.Core.List.{List, [], ◌∷◌, ◌++◌, map, map-append, flatten, Memᴰ}
use mathlib.Core.List.Memᴰ.{head as here}
use mathlib.Core.List.Memᴰ.{tail as there}
use mathlib.Core.List.{Nodup, Nodup-append}
use mathlib.Core.Logic.{⊎_elim}
use Prim.Native.Nat.{ℕ, zero, suc, ◌<◌}
use native.Mathlib.Omega.{arith}
use lib.ListN.{length, get_or, length-append}
use Rattle.row_record.specs.declared.ImPeak1D.{ImPeak1D}
use Rattle.stitch_peaks.specs.Extremes.{lowest_of, highest_of, is_any, AllAny}
use Rattle.stitch_peaks.specs.PeakList.{nth}
use Rattle.sort_digits.specs.Sorted.{up_to}
use Rattle.sort_digits.proofs.SortedLaws.{sort-distinct}
use Rattle.sort_digits.proofs.UpTo.{upto-distinct}
use Rattle.stitch_matching.specs.declared.StitchParams.{StitchParams}
use Rattle.stitch_keys.specs.declared.KeyRule.{KeyRule}
use Rattle.stitch_keys.specs.declared.KeyRule.TheVariants.{First, Second}
use Rattle.stitch_keys.specs.Keys.{key_of}
use Rattle.stitch_merging.specs.Merging.{merged}
use Rattle.stitch_merging.specs.MergingLaws.{Bound, low, high}
use Rattle.stitch_merging.proofs.MergingLaws.{twice-low, twice-high, twice-id}
use Rattle.stitch_grouping.specs.Grouping.{peaks_at, groups, group_peaks, pass_order, pass_groups, has, number_in}
use Rattle.stitch_grouping.proofs.GroupingLaws.{groups-flatten, groups-some}
use Rattle.stitch_passes.specs.Stitching.{first_groups, first_peaks, second_groups, stitched, owner_of}
use Rattle.stitch_passes.proofs.PassLaws.{has-true, has-false, order_lt, pass-group, pass-number, first-length}

-- ---- groups in which no place stands twice

in-groups : (gs : List (List ℕ)) (j p : ℕ) → Memᴰ p (get_or gs j []) → Memᴰ p (flatten gs)
unfolding flatten
in-groups [] j p m = absurd (Memᴰ.not-nil m)
in-groups (g ∷ gs) zero p m = Memᴰ.append_left (flatten gs) m
in-groups (g ∷ gs) (suc j) p m = Memᴰ.append_right g (in-groups gs j p m)

-- the number of a place's group is that of the one group that has it
number-only : (gs : List (List ℕ)) (p : ℕ) → Nodup (flatten gs) → (j : ℕ) → Memᴰ p (get_or gs j []) → number_in gs p ≡ j
unfolding number_in flatten
number-only [] p d j m = absurd (Memᴰ.not-nil m)
number-only (g ∷ gs) p d zero m = go (has g p) refl
  where
    go : (b : Bool) → has g p ≡ b → cond b 0 (suc (number_in gs p)) ≡ 0
    go true e = refl
    go false e = absurd (has-false g p e m)
number-only (g ∷ gs) p d (suc j) m =
    let apart = (Nodup-append {l₁ = g} {l₂ = flatten gs}).0 d in
    go (has g p) refl (number-only gs p apart.1 j m) (λ i. apart.2 p ∣ i ∣₁ ∣ in-groups gs j p m ∣₁)
  where
    go : (b : Bool) → has g p ≡ b → number_in gs p ≡ j → (Memᴰ p g → ⊥) → cond b 0 (suc (number_in gs p)) ≡ suc j
    go true e i n = absurd (n (has-true g p e))
    go false e i n = ap suc i

at-group : (gs : List (List ℕ)) (j : ℕ) → j < length gs → Memᴰ (get_or gs j []) gs
at-group [] j h = absurd (omega arith)
at-group (g ∷ gs) zero h = here refl
at-group (g ∷ gs) (suc j) h = there (at-group gs j (omega arith))

module _ (rule : KeyRule) (params : StitchParams) (ps : List ImPeak1D) where
  pass-only : (p j : ℕ) → Memᴰ p (get_or (pass_groups rule params ps) j []) → number_in (pass_groups rule params ps) p ≡ j
  unfolding pass_groups
  pass-only p j m =
      let order = pass_order rule ps in
      let once : Nodup order = sort-distinct (λ k. key_of rule (nth ps k)) (up_to (length ps)) (upto-distinct (length ps)) in
      number-only (groups rule params ps order) p (subst Nodup (sym (groups-flatten rule params ps order)) once) j m

  -- a place in a group is that of a peak
  pass-lt : (p j : ℕ) → Memᴰ p (get_or (pass_groups rule params ps) j []) → p < length ps
  unfolding pass_groups
  pass-lt p j m =
      let order = pass_order rule ps in
      order_lt rule params ps p (subst (Memᴰ p) (groups-flatten rule params ps order) (in-groups (groups rule params ps order) j p m))

  pass-some : (j : ℕ) → j < length (pass_groups rule params ps) → 0 < length (get_or (pass_groups rule params ps) j [])
  unfolding pass_groups
  pass-some j h =
      let order = pass_order rule ps in
      groups-some rule params ps order (get_or (groups rule params ps order) j []) (at-group (groups rule params ps order) j h)

-- ---- groups of groups

-- the groups with the given numbers
abbrev groups_at : List (List ℕ) → List ℕ → List (List ℕ)
groups_at gs js = map (λ j. get_or gs j []) js

in-places : (gs : List (List ℕ)) (js : List ℕ) (j p : ℕ) → Memᴰ j js → Memᴰ p (get_or gs j []) → Memᴰ p (flatten (groups_at gs js))
unfolding flatten
in-places gs [] j p m k = absurd (Memᴰ.not-nil m)
in-places gs (i ∷ js) j p m k =
    ⊎_elim
    (λ (e : j ≡ i). Memᴰ.append_left (flatten (groups_at gs js)) (subst (λ (x : ℕ). Memᴰ p (get_or gs x [])) e k))
    (λ r. Memᴰ.append_right (get_or gs i []) (in-places gs js j p r k))
    (Memᴰ.cases_cons m)

-- a group among them that has a place
record Through (gs : List (List ℕ)) (js : List ℕ) (p : ℕ) : Type 0 where
  pub group : ℕ
  pub among : Memᴰ group js
  pub place : Memᴰ p (get_or gs group [])

through : (gs : List (List ℕ)) (js : List ℕ) (p : ℕ) → Memᴰ p (flatten (groups_at gs js)) → Through gs js p
unfolding flatten
through gs [] p m = absurd (Memᴰ.not-nil m)
through gs (i ∷ js) p m =
    ⊎_elim
    (λ k. record { group = i; among = here refl; place = k })
    (λ k. let r = through gs js p k in record { group = r.group; among = there r.among; place = r.place })
    (Memᴰ.append_cases (get_or gs i []) m)

peaks-flatten : (ps : List ImPeak1D) (gs : List (List ℕ)) → flatten (map (peaks_at ps) gs) ≡ peaks_at ps (flatten gs)
unfolding flatten
peaks-flatten ps [] = refl
peaks-flatten ps (g ∷ gs) = ap (λ (l : List ImPeak1D). peaks_at ps g ++ l) (peaks-flatten ps gs) ∙ sym (map-append (nth ps) g (flatten gs))

-- the peak of a group is the one into which it is merged
group-peak : (ps : List ImPeak1D) (gs : List (List ℕ)) (k : ℕ) → k < length gs → nth (group_peaks ps gs) k ≡ merged (peaks_at ps (get_or gs k []))
unfolding group_peaks
group-peak ps [] k h = absurd (omega arith)
group-peak ps (g ∷ gs) zero h = refl
group-peak ps (g ∷ gs) (suc k) h = group-peak ps gs k (omega arith)

pub any_some : (ps : List ImPeak1D) (g : List ℕ) → 0 < length g → is_any (peaks_at ps g) ≡ true
unfolding is_any
any_some ps [] h = absurd (omega arith)
any_some ps (p ∷ g) h = refl

-- ---- both passes

module _ (params : StitchParams) (ps : List ImPeak1D) where
  -- the first groups of the k-th second group, and their places
  abbrev firsts : ℕ → List (List ℕ)
  firsts k = groups_at (first_groups params ps) (get_or (second_groups params ps) k [])

  abbrev pub brought : ℕ → List ℕ
  brought k = flatten (firsts k)

  first-lt : (j k : ℕ) → Memᴰ j (get_or (second_groups params ps) k []) → j < length (first_groups params ps)
  first-lt j k m = rw (← first-length params ps) (pass-lt Second params (first_peaks params ps) j k m)

  -- every place is brought into its owner
  pub owner-has : (p : ℕ) → p < length ps → Memᴰ p (brought (owner_of params ps p))
  unfolding owner_of
  owner-has p h =
      let j = number_in (first_groups params ps) p in
      let l : j < length (first_peaks params ps) = rw (first-length params ps) (pass-number (First params) params ps p h) in
      in-places (first_groups params ps) (get_or (second_groups params ps) (owner_of params ps p) []) j p
      (pass-group Second params (first_peaks params ps) j l)
      (pass-group (First params) params ps p h)

  -- and into no other
  pub owner-only : (p k : ℕ) → Memᴰ p (brought k) → (p < length ps) × (owner_of params ps p ≡ k)
  unfolding owner_of
  owner-only p k m =
      let t = through (first_groups params ps) (get_or (second_groups params ps) k []) p m in
      let e : number_in (first_groups params ps) p ≡ t.group = pass-only (First params) params ps p t.group t.place in (
        pass-lt (First params) params ps p t.group t.place,
        ap (number_in (second_groups params ps)) e ∙ pass-only Second params (first_peaks params ps) t.group k t.among,
      )

  module _ (k : ℕ) (h : k < length (second_groups params ps)) where
    first_some : (j : ℕ) → Memᴰ j (get_or (second_groups params ps) k []) → 0 < length (get_or (first_groups params ps) j [])
    first_some j m = pass-some (First params) params ps j (first-lt j k m)

    -- some place is brought there
    pub brought-some : 0 < length (brought k)
    unfolding flatten
    brought-some = go (get_or (second_groups params ps) k []) (pass-some Second params (first_peaks params ps) k h) first_some
      where
        go : (js : List ℕ) → 0 < length js → ((j : ℕ) → Memᴰ j js → 0 < length (get_or (first_groups params ps) j [])) → 0 < length (flatten (groups_at (first_groups params ps) js))
        go [] l f = absurd (omega arith)
        go (j ∷ js) l f = let e = f j (here refl) in simp length-append (omega arith)

    all_any : AllAny (map (peaks_at ps) (firsts k))
    all_any = go (get_or (second_groups params ps) k []) first_some
      where
        go : (js : List ℕ) → ((j : ℕ) → Memᴰ j js → 0 < length (get_or (first_groups params ps) j [])) → AllAny (map (peaks_at ps) (groups_at (first_groups params ps) js))
        go [] f g m = absurd (Memᴰ.not-nil m)
        go (j ∷ js) f g m =
            ⊎_elim
            (λ (e : g ≡ peaks_at ps (get_or (first_groups params ps) j [])). rw e (any_some ps (get_or (first_groups params ps) j []) (f j (here refl))))
            (go js (λ i o. f i (there o)) g)
            (Memᴰ.cases_cons m)

    -- the stitched peak is merged from the merged first groups
    stitched-peak : nth (stitched params ps) k ≡ merged (map merged (map (peaks_at ps) (firsts k)))
    unfolding stitched
    stitched-peak =
        group-peak (first_peaks params ps) (second_groups params ps) k h
        ∙ ap merged (go (get_or (second_groups params ps) k []) (λ j m. first-lt j k m))
      where
        go : (js : List ℕ) → ((j : ℕ) → Memᴰ j js → j < length (first_groups params ps)) → peaks_at (first_peaks params ps) js ≡ map merged (map (peaks_at ps) (groups_at (first_groups params ps) js))
        go [] f = refl
        go (j ∷ js) f = rw (group-peak ps (first_groups params ps) j (f j (here refl)), go js (λ i m. f i (there m)))

    -- so its bounds are the extremes of what is brought there, and its identity the least
    pub brought-low : (b : Bound) → low b (nth (stitched params ps) k) ≡ lowest_of (low b) (peaks_at ps (brought k))
    brought-low b = ap (low b) stitched-peak ∙ twice-low (map (peaks_at ps) (firsts k)) all_any b ∙ ap (lowest_of (low b)) (peaks-flatten ps (firsts k))

    pub brought-high : (b : Bound) → high b (nth (stitched params ps) k) ≡ highest_of (high b) (peaks_at ps (brought k))
    brought-high b = ap (high b) stitched-peak ∙ twice-high (map (peaks_at ps) (firsts k)) all_any b ∙ ap (highest_of (high b)) (peaks-flatten ps (firsts k))

    pub brought-id : (nth (stitched params ps) k).id ≡ lowest_of (λ p. p.id) (peaks_at ps (brought k))
    brought-id = ap (λ (p : ImPeak1D). p.id) stitched-peak ∙ twice-id (map (peaks_at ps) (firsts k)) all_any ∙ ap (lowest_of (λ p. p.id)) (peaks-flatten ps (firsts k))
