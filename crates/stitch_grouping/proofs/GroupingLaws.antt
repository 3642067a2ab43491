-- What holds of the groups, and of what is written of them.
use mathlib.Core.Path.{◌≡◌, refl, sym, ap, subst, ◌∙◌}
use mathlib.Core.Bool.{Bool, true, false, cond}
use mathlib.Core.List.{List, [], ◌∷◌, ◌++◌, reverse, reverse-cons, append_assoc, flatten}
use mathlib.Core.List.Memᴰ
use mathlib.Core.List.{Memᴰ}
use mathlib.Core.List.Memᴰ.{head as here}
use mathlib.Core.List.Memᴰ.{tail as there}
use mathlib.Core.List.{Nodup, Nodup-append}
use mathlib.Core.Logic.{⊎_elim}
use Prim.Native.Nat.{ℕ, zero, suc, ◌+◌, ◌<◌, ◌≤◌}
use native.Mathlib.Omega.{arith}
use borrow.Author.Tests.{eqb-true, eqb-false}
use lib.Dec.{eqb}
use lib.ListN.{length, get_or, set, length-set, length-reverse_aux}
use lib.Seq.{get_or-set_same, get_or-set_other}
use Rattle.row_record.specs.declared.ImPeak1D.{ImPeak1D}
use Rattle.stitch_peaks.specs.PeakList.{nth}
use Rattle.stitch_matching.specs.declared.StitchParams.{StitchParams}
use Rattle.stitch_keys.specs.declared.KeyRule.{KeyRule}
use Rattle.stitch_grouping.specs.Grouping.{peaks_at, follows, groups_from, groups}
use Rattle.stitch_grouping.specs.Walk.{numbered, marked}
use Rattle.stitch_grouping.specs.GroupingLaws.{GroupsJoin, NoneEmpty, FewGroups, MemberNumber, OtherNumber}

-- ---- groups

module _ (rule : KeyRule) (params : StitchParams) (ps : List ImPeak1D) where
  -- a place that may join the open group, and one that may not
  pub groups-join : (g : List ℕ) (q : ℕ) (qs : List ℕ) → follows rule params (peaks_at ps g) (nth ps q) ≡ true
      → groups_from rule params ps g (q ∷ qs) ≡ groups_from rule params ps (q ∷ g) qs
  unfolding groups_from
  groups-join g q qs h = rw h

  pub groups-close : (g : List ℕ) (q : ℕ) (qs : List ℕ) → follows rule params (peaks_at ps g) (nth ps q) ≡ false
      → groups_from rule params ps g (q ∷ qs) ≡ reverse g ∷ groups_from rule params ps (q ∷ []) qs
  unfolding groups_from
  groups-close g q qs h = rw h

  -- joined again, the groups are the places in their order
  flatten-from : (g qs : List ℕ) → flatten (groups_from rule params ps g qs) ≡ reverse g ++ qs
  unfolding groups_from flatten
  flatten-from g [] = refl
  flatten-from g (q ∷ qs) = go (follows rule params (peaks_at ps g) (nth ps q)) (flatten-from (q ∷ g) qs) (flatten-from (q ∷ []) qs)
    where
      go : (b : Bool) → flatten (groups_from rule params ps (q ∷ g) qs) ≡ reverse (q ∷ g) ++ qs → flatten (groups_from rule params ps (q ∷ []) qs) ≡ q ∷ qs
          → flatten (cond b (groups_from rule params ps (q ∷ g) qs) (reverse g ∷ groups_from rule params ps (q ∷ []) qs)) ≡ reverse g ++ (q ∷ qs)
      go true e f = e ∙ ap (λ (l : List ℕ). l ++ qs) (reverse-cons q g) ∙ append_assoc (reverse g) (q ∷ []) qs
      go false e f = ap (λ (l : List ℕ). reverse g ++ l) f

  -- no group is empty
  some-from : (g qs : List ℕ) → 0 < length g → (f : List ℕ) → Memᴰ f (groups_from rule params ps g qs) → 0 < length f
  unfolding groups_from
  some-from g [] h f m = let e : f ≡ reverse g = Memᴰ.eq_of_singleton m in omega (arith, ap length e, length-reverse_aux g [])
  some-from g (q ∷ qs) h f m =
      go (follows rule params (peaks_at ps g) (nth ps q)) (some-from (q ∷ g) qs (omega arith) f) (some-from (q ∷ []) qs (omega arith) f) m
    where
      go : (b : Bool) → (Memᴰ f (groups_from rule params ps (q ∷ g) qs) → 0 < length f) → (Memᴰ f (groups_from rule params ps (q ∷ []) qs) → 0 < length f)
          → Memᴰ f (cond b (groups_from rule params ps (q ∷ g) qs) (reverse g ∷ groups_from rule params ps (q ∷ []) qs)) → 0 < length f
      go true i j m = i m
      go false i j m = ⊎_elim (λ (e : f ≡ reverse g). omega (arith, ap length e, length-reverse_aux g [])) j (Memᴰ.cases_cons m)

  -- at most as many groups as places
  count-from : (g qs : List ℕ) → length (groups_from rule params ps g qs) ≤ length qs + 1
  unfolding groups_from
  count-from g [] = omega arith
  count-from g (q ∷ qs) = go (follows rule params (peaks_at ps g) (nth ps q)) (count-from (q ∷ g) qs) (count-from (q ∷ []) qs)
    where
      go : (b : Bool) → length (groups_from rule params ps (q ∷ g) qs) ≤ length qs + 1 → length (groups_from rule params ps (q ∷ []) qs) ≤ length qs + 1
          → length (cond b (groups_from rule params ps (q ∷ g) qs) (reverse g ∷ groups_from rule params ps (q ∷ []) qs)) ≤ length (q ∷ qs) + 1
      go true i j = omega arith
      go false i j = omega arith

pub groups-flatten : GroupsJoin
unfolding groups flatten
groups-flatten rule params ps [] = refl
groups-flatten rule params ps (q ∷ qs) = flatten-from rule params ps (q ∷ []) qs

pub groups-some : NoneEmpty
unfolding groups
groups-some rule params ps [] g m = absurd (Memᴰ.not-nil m)
groups-some rule params ps (q ∷ qs) g m = some-from rule params ps (q ∷ []) qs (omega arith) g m

pub groups-count : FewGroups
unfolding groups
groups-count rule params ps [] = omega arith
groups-count rule params ps (q ∷ qs) = omega (arith, count-from rule params ps (q ∷ []) qs)

-- ---- the column

pub numbered-length : (k : ℕ) (qs column : List ℕ) → length (numbered k qs column) ≡ length column
unfolding numbered
numbered-length k [] column = refl
numbered-length k (p ∷ qs) column = numbered-length k qs (set column p k) ∙ length-set column p k

pub marked-length : (k : ℕ) (gs : List (List ℕ)) (column : List ℕ) → length (marked k gs column) ≡ length column
unfolding marked
marked-length k [] column = refl
marked-length k (g ∷ gs) column = marked-length (k + 1) gs (numbered k g column) ∙ numbered-length k g column

module _ (p : ℕ) where
  -- places that are not given keep their numbers
  numbered-other : (k : ℕ) (qs column : List ℕ) → (Memᴰ p qs → ⊥) → get_or (numbered k qs column) p 0 ≡ get_or column p 0
  unfolding numbered
  numbered-other k [] column h = refl
  numbered-other k (q ∷ qs) column h = numbered-other k qs (set column q k) (λ m. h (there m)) ∙ get_or-set_other column q p k 0 (λ e. h (here e))

  pub marked_other : (k : ℕ) (gs : List (List ℕ)) (column : List ℕ) → (Memᴰ p (flatten gs) → ⊥) → get_or (marked k gs column) p 0 ≡ get_or column p 0
  unfolding marked flatten
  marked_other k [] column h = refl
  marked_other k (g ∷ gs) column h =
      marked_other (k + 1) gs (numbered k g column) (λ m. h (Memᴰ.append_right g m)) ∙ numbered-other k g column (λ m. h (Memᴰ.append_left (flatten gs) m))

  -- a place that has the number keeps it
  numbered-stays : (k : ℕ) (qs column : List ℕ) → p < length column → get_or column p 0 ≡ k → get_or (numbered k qs column) p 0 ≡ k
  unfolding numbered
  numbered-stays k [] column h e = e
  numbered-stays k (q ∷ qs) column h e = numbered-stays k qs (set column q k) (simp length-set h) (go (eqb p q) refl)
    where
      go : (b : Bool) → eqb p q ≡ b → get_or (set column q k) p 0 ≡ k
      go true d = rw (← eqb-true p q d) (get_or-set_same column p k 0 h)
      go false d = get_or-set_other column q p k 0 (eqb-false p q d) ∙ e

  numbered-member : (k : ℕ) (qs column : List ℕ) → p < length column → Memᴰ p qs → get_or (numbered k qs column) p 0 ≡ k
  unfolding numbered
  numbered-member k [] column h m = absurd (Memᴰ.not-nil m)
  numbered-member k (q ∷ qs) column h m =
      let l : p < length (set column q k) = simp length-set h in
      ⊎_elim
      (λ (e : p ≡ q). numbered-stays k qs (set column q k) l (rw (← e) (get_or-set_same column p k 0 h)))
      (numbered-member k qs (set column q k) l)
      (Memᴰ.cases_cons m)

  -- where no place stands twice, a member of the j-th group has the group's number
  pub marked-member : (k : ℕ) (gs : List (List ℕ)) (column : List ℕ) → Nodup (flatten gs) → p < length column
      → (j : ℕ) → Memᴰ p (get_or gs j []) → get_or (marked k gs column) p 0 ≡ k + j
  unfolding marked flatten
  marked-member k [] column d h j m = absurd (Memᴰ.not-nil m)
  marked-member k (g ∷ gs) column d h zero m =
      let apart = (Nodup-append {l₁ = g} {l₂ = flatten gs}).0 d in
      let e : k ≡ k + 0 = omega arith in
      marked_other (k + 1) gs (numbered k g column) (λ n. apart.2 p ∣ m ∣₁ ∣ n ∣₁) ∙ numbered-member k g column h m ∙ e
  marked-member k (g ∷ gs) column d h (suc j) m =
      let apart = (Nodup-append {l₁ = g} {l₂ = flatten gs}).0 d in
      let e : k + 1 + j ≡ k + suc j = omega arith in
      marked-member (k + 1) gs (numbered k g column) apart.1 (rw (numbered-length k g column) h) j m ∙ e

-- the column of a pass
pub member-number : MemberNumber
member-number rule params ps order column p d h j m =
    let e : 0 + j ≡ j = omega arith in
    marked-member p 0 (groups rule params ps order) column (subst Nodup (sym (groups-flatten rule params ps order)) d) h j m ∙ e

pub other-number : OtherNumber
other-number rule params ps order column p n =
    marked_other p 0 (groups rule params ps order) column (λ m. n (subst (Memᴰ p) (groups-flatten rule params ps order) m))
