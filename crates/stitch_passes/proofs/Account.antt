-- The stitched peaks account for the input peaks: the members that the owner column names are those that the passes bring together.
use mathlib.Core.Path.{◌≡◌, refl, sym, ap, subst, ◌∙◌}
use mathlib.Core.Bool.{Bool, true, false, cond}
use mathlib.Core.List.Memᴰ
use mathlib.Core.List.{List, [], ◌∷◌, ◌++◌, Memᴰ}
use mathlib.Core.List.Memᴰ.{head as here}
use mathlib.Core.List.Memᴰ.{tail as there}
use mathlib.Core.Logic.{⊎_elim}
use Prim.Native.Nat.{ℕ, ◌*◌, ◌<◌, ◌≤◌}
use native.Mathlib.Omega.{arith}
use borrow.Author.Tests.{eqb-true, eq-eqb}
use lib.Dec.{eqb}
use lib.ListN.{length, get_or, drop}
use Rattle.refusal.proofs.Bools.{clash}
use Rattle.row_record.specs.Record.{size, peak_at}
use Rattle.row_record.specs.declared.ImPeak1D.{ImPeak1D}
use Rattle.stitch_peaks.specs.Extremes.{lowest_of, highest_of}
use Rattle.stitch_peaks.specs.PeakList.{nth, list_words}
use Rattle.stitch_peaks.specs.PeakListLaws.{AllFit}
use Rattle.stitch_peaks.proofs.Extremes.{lowest-below, lowest-one, highest-above, highest-one}
use Rattle.stitch_peaks.proofs.PeakListLaws.{read_at}
use Rattle.sort_digits.specs.Sorted.{up_to}
use Rattle.sort_digits.proofs.UpTo.{upto-lt, upto-has}
use Rattle.sort_digits.proofs.SortedLaws.{at-index}
use Rattle.stitch_matching.specs.declared.StitchParams.{StitchParams}
use Rattle.stitch_merging.specs.MergingLaws.{low, high}
use Rattle.stitch_grouping.specs.Grouping.{peaks_at}
use Rattle.stitch_grouping.proofs.Fits.{groups-fit}
use Rattle.stitch_passes.specs.Stitching.{first_groups, first_peaks, second_groups, stitched, owner_of, owners_of}
use Rattle.stitch_passes.specs.Account.{places_of, owner_at, members_of, DistinctIds, AccountHolds, LeftAccount}
use Rattle.stitch_passes.proofs.PassLaws.{stitched-length, owner-lt, column-at}
use Rattle.stitch_passes.proofs.Owners.{any_some, brought, owner-has, owner-only, brought-some, brought-low, brought-high, brought-id}

-- ---- places of which a test is true

pub places-has : (test : ℕ → Bool) (qs : List ℕ) (p : ℕ) → Memᴰ p qs → test p ≡ true → Memᴰ p (places_of test qs)
unfolding places_of
places-has test [] p m h = absurd (Memᴰ.not-nil m)
places-has test (q ∷ qs) p m h = go (test q) refl (λ n. places-has test qs p n h)
  where
    go : (b : Bool) → test q ≡ b → (Memᴰ p qs → Memᴰ p (places_of test qs)) → Memᴰ p (cond b (q ∷ places_of test qs) (places_of test qs))
    go true e i = ⊎_elim here (λ n. there (i n)) (Memᴰ.cases_cons m)
    go false e i = ⊎_elim (λ (f : p ≡ q). clash (test q) (rw (← f) h) e) i (Memᴰ.cases_cons m)

pub places-only : (test : ℕ → Bool) (qs : List ℕ) (p : ℕ) → Memᴰ p (places_of test qs) → Memᴰ p qs × (test p ≡ true)
unfolding places_of
places-only test [] p m = absurd (Memᴰ.not-nil m)
places-only test (q ∷ qs) p m = go (test q) refl (places-only test qs p) m
  where
    go : (b : Bool) → test q ≡ b → (Memᴰ p (places_of test qs) → Memᴰ p qs × (test p ≡ true)) → Memᴰ p (cond b (q ∷ places_of test qs) (places_of test qs))
        → Memᴰ p (q ∷ qs) × (test p ≡ true)
    go true e i n = ⊎_elim (λ (f : p ≡ q). (here f, rw f e)) (λ o. (there (i o).0, (i o).1)) (Memᴰ.cases_cons n)
    go false e i n = (there (i n).0, (i n).1)

-- ---- peaks at places

-- a place that a peak comes from
record From (ps : List ImPeak1D) (g : List ℕ) (x : ImPeak1D) : Type 0 where
  pub place : ℕ
  pub among : Memᴰ place g
  pub peak : x ≡ nth ps place

from : (ps : List ImPeak1D) (g : List ℕ) (x : ImPeak1D) → Memᴰ x (peaks_at ps g) → From ps g x
from ps [] x m = absurd (Memᴰ.not-nil m)
from ps (p ∷ g) x m =
    ⊎_elim
    (λ e. record { place = p; among = here refl; peak = e })
    (λ n. let r = from ps g x n in record { place = r.place; among = there r.among; peak = r.peak })
    (Memᴰ.cases_cons m)

at_place : (ps : List ImPeak1D) (g : List ℕ) (p : ℕ) → Memᴰ p g → Memᴰ (nth ps p) (peaks_at ps g)
at_place ps [] p m = absurd (Memᴰ.not-nil m)
at_place ps (q ∷ g) p m = ⊎_elim (λ (e : p ≡ q). here (ap (nth ps) e)) (λ n. there (at_place ps g p n)) (Memᴰ.cases_cons m)

-- the extremes of more places go further, so that those of the same places are the same, in whatever order they stand
module _ (ps : List ImPeak1D) (f : ImPeak1D → ℕ) where
  module _ (g l : List ℕ) (some : 0 < length l) (more : (p : ℕ) → Memᴰ p l → Memᴰ p g) where
    lower : lowest_of f (peaks_at ps g) ≤ lowest_of f (peaks_at ps l)
    lower =
        let one = lowest-one f (peaks_at ps l) (any_some ps l some) in
        let r = from ps l one.peak one.member in
        let h = lowest-below f (nth ps r.place) (peaks_at ps g) (at_place ps g r.place (more r.place r.among)) in
        omega (arith, one.value, ap f r.peak, h)

    higher : highest_of f (peaks_at ps l) ≤ highest_of f (peaks_at ps g)
    higher =
        let one = highest-one f (peaks_at ps l) (any_some ps l some) in
        let r = from ps l one.peak one.member in
        let h = highest-above f (nth ps r.place) (peaks_at ps g) (at_place ps g r.place (more r.place r.among)) in
        omega (arith, one.value, ap f r.peak, h)

  module _ (g l : List ℕ) (some : 0 < length g) (some' : 0 < length l) (to : (p : ℕ) → Memᴰ p g → Memᴰ p l) (back : (p : ℕ) → Memᴰ p l → Memᴰ p g) where
    same-lowest : lowest_of f (peaks_at ps g) ≡ lowest_of f (peaks_at ps l)
    same-lowest = omega (arith, lower g l some' back, lower l g some to)

    same-highest : highest_of f (peaks_at ps g) ≡ highest_of f (peaks_at ps l)
    same-highest = omega (arith, higher g l some' back, higher l g some to)

-- ---- the account

filled : (l : List ℕ) (p : ℕ) → Memᴰ p l → 0 < length l
filled [] p m = absurd (Memᴰ.not-nil m)
filled (q ∷ l) p m = omega arith

module _ (params : StitchParams) (ps : List ImPeak1D) (behind behind_owners : List ℕ) (fit : AllFit ps) where
  abbrev column : List ℕ
  column = owners_of params ps ++ behind_owners

  abbrev words : List ℕ
  words = list_words (stitched params ps) ++ behind

  abbrev members : ℕ → List ℕ
  members k = members_of column (length ps) k

  owner_at_lem : (p : ℕ) → p < length ps → owner_at column p ≡ owner_of params ps p
  owner_at_lem p h = column-at (owner_of params ps) (length ps) behind_owners p h

  -- the members of a stitched peak are the places that are brought into it
  member-lt : (k p : ℕ) → Memᴰ p (members k) → (p < length ps) × (owner_of params ps p ≡ k)
  unfolding members_of
  member-lt k p m =
      let r = places-only (λ q. eqb (owner_at column q) k) (up_to (length ps)) p m in
      let h = upto-lt (length ps) p r.0 in
      (h, sym (owner_at_lem p h) ∙ eqb-true (owner_at column p) k r.1)

  member_of : (k p : ℕ) → p < length ps → owner_of params ps p ≡ k → Memᴰ p (members k)
  unfolding members_of
  member_of k p h e = places-has (λ q. eqb (owner_at column q) k) (up_to (length ps)) p (upto-has (length ps) p h) (eq-eqb (owner_at column p) k (owner_at_lem p h ∙ e))

  to-members : (k p : ℕ) → Memᴰ p (brought params ps k) → Memᴰ p (members k)
  to-members k p m = let r = owner-only params ps p k m in member_of k p r.0 r.1

  from-members : (k p : ℕ) → Memᴰ p (members k) → Memᴰ p (brought params ps k)
  from-members k p m = let r = member-lt k p m in subst (λ (j : ℕ). Memᴰ p (brought params ps j)) r.1 (owner-has params ps p r.0)

  all_fit : AllFit (stitched params ps)
  unfolding stitched
  all_fit = groups-fit (first_peaks params ps) (second_groups params ps) (groups-fit ps (first_groups params ps) fit)

  module _ (k : ℕ) (h : k < length (stitched params ps)) where
    second_lt : k < length (second_groups params ps)
    second_lt = omega (arith, stitched-length params ps)

    read : peak_at words k ≡ nth (stitched params ps) k
    read = read_at (stitched params ps) behind all_fit k h

    members-some : 0 < length (members k)
    members-some =
        let l = brought params ps k in
        filled (members k) (get_or l 0 0) (to-members k (get_or l 0 0) (at-index l 0 (brought-some params ps k second_lt)))

    lowest : (f : ImPeak1D → ℕ) → lowest_of f (peaks_at ps (brought params ps k)) ≡ lowest_of f (peaks_at ps (members k))
    lowest f = same-lowest ps f (brought params ps k) (members k) (brought-some params ps k second_lt) members-some (to-members k) (from-members k)

    highest : (f : ImPeak1D → ℕ) → highest_of f (peaks_at ps (brought params ps k)) ≡ highest_of f (peaks_at ps (members k))
    highest f = same-highest ps f (brought params ps k) (members k) (brought-some params ps k second_lt) members-some (to-members k) (from-members k)

    least-id : (peak_at words k).id ≡ lowest_of (λ p. p.id) (peaks_at ps (members k))
    least-id = ap (λ (p : ImPeak1D). p.id) read ∙ brought-id params ps k second_lt ∙ lowest (λ p. p.id)

    -- the member whose identity the stitched peak bears
    named : (p : ℕ) × Memᴰ p (members k) × ((peak_at words k).id ≡ (nth ps p).id)
    named =
        let one = lowest-one (λ p. p.id) (peaks_at ps (members k)) (any_some ps (members k) members-some) in
        let r = from ps (members k) one.peak one.member in
        (r.place, r.among, least-id ∙ one.value ∙ ap (λ (p : ImPeak1D). p.id) r.peak)

  apart : DistinctIds ps → (j k : ℕ) → j < length (stitched params ps) → k < length (stitched params ps) → (peak_at words j).id ≡ (peak_at words k).id → j ≡ k
  apart ids j k h i e =
      let a = named j h in
      let b = named k i in
      let x = member-lt j a.0 a.1 in
      let y = member-lt k b.0 b.1 in
      let same : a.0 ≡ b.0 = ids a.0 b.0 x.0 y.0 (sym a.2 ∙ e ∙ b.2) in
      sym x.1 ∙ ap (owner_of params ps) same ∙ y.1

pub account : AccountHolds
account params ps behind behind_owners fit ids =
    record {
      owned = λ p h. rw (owner_at_lem params ps behind behind_owners fit p h) (owner-lt params ps p h);
      some = λ k h. members-some params ps behind behind_owners fit k h;
      lows = λ k h b. ap (low b) (read params ps behind behind_owners fit k h) ∙ brought-low params ps k (second_lt params ps behind behind_owners fit k h) b ∙ lowest params ps behind behind_owners fit k h (low b);
      highs = λ k h b. ap (high b) (read params ps behind behind_owners fit k h) ∙ brought-high params ps k (second_lt params ps behind behind_owners fit k h) b ∙ highest params ps behind behind_owners fit k h (high b);
      identity = λ k h. least-id params ps behind behind_owners fit k h;
      distinct = λ j k h i e. apart params ps behind behind_owners fit ids j k h i e;
    }

pub left-account : LeftAccount
left-account params ps out₀ owners₀ count out owners s fit ids =
    rw (s.counted, s.records, s.column) (account params ps (drop (count * size) out₀) (drop (length ps) owners₀) fit ids)
