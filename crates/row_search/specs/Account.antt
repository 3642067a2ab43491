-- What the suppression by least distance d makes of the qualifying apexes qs of a row y, for every d: those kept are some of qs, in order and
-- at least d apart, and each of qs is kept or gives way, step by step, to one that is kept.
use Rattle.std.specs.Prelude.{◌≡◌, true, false, ◌⊎◌, ◌≢◌, ℕ, ◌+◌, ◌-◌, ◌≤◌, ◌<◌, length, Float}
use mathlib.Core.List.{List, [], ◌∷◌, reverse, Memᴰ}
use Rattle.std.specs.Float.Ieee.{lt, le, is_nan}
use Rattle.numeric.specs.Arith.{at}
use Rattle.row_search.specs.Suppression.{keep_all}

-- ---- the terms

-- i is one of the list
infix 4 ◌∈◌
abbrev pub ◌∈◌ : ℕ → List ℕ → Type 0
i ∈ l = Memᴰ i l

-- every one of the list is such
abbrev pub All : (ℕ → Type 0) → List ℕ → Type 0
All P l = (i : ℕ) → i ∈ l → P i

-- strictly ascending: each index is below all that follow it
abbrev pub Ascending : List ℕ → Type 0
Ascending [] = Unit {0}
Ascending (i ∷ is) = All (λ j. i < j) is × Ascending is

-- strictly descending: each index is above all that follow it
abbrev pub Descending : List ℕ → Type 0
Descending [] = Unit {0}
Descending (i ∷ is) = All (λ j. j < i) is × Descending is

-- every height is a number, as a candidate's is, which is above its left neighbour
abbrev pub NoNan : List Float → List ℕ → Type 0
NoNan y qs = All (λ i. is_nan (at y i) ≡ false) qs

-- how far apart two indices are, whichever comes first
abbrev pub dist : ℕ → ℕ → ℕ
dist i j = (i - j) + (j - i)

-- From the apex c there are steps, none or more, to one of ks. Each goes to a later apex of qs that is nearer than d and
-- strictly higher.
pub data Leads (d : ℕ) (y : List Float) (qs ks : List ℕ) : ℕ → Type 0 where
  listed : {c : ℕ} → c ∈ ks → Leads d y qs ks c
  step : {c : ℕ} (to : ℕ) → to ∈ qs → c < to → to - c < d → lt (at y c) (at y to) ≡ true → Leads d y qs ks to → Leads d y qs ks c

-- The apex i gives way to another of qs, earlier or later, that is nearer than d and no lower, and that leads to one of ks.
pub record GivesWay (d : ℕ) (y : List Float) (qs ks : List ℕ) (i : ℕ) : Type 0 where
  pub to : ℕ
  pub qualifies : to ∈ qs
  pub other : to ≢ i
  pub near : dist i to < d
  pub no_lower : le (at y i) (at y to) ≡ true
  pub leads : Leads d y qs ks to

-- the apex i is one of ks, or gives way
abbrev pub Accounted : ℕ → List Float → List ℕ → List ℕ → ℕ → Type 0
Accounted d y qs ks i = (i ∈ ks) ⊎ GivesWay d y qs ks i

-- ---- the theorems: keep_all d y [] qs are the apexes kept, the newest first. That qs ascend, and that their heights are numbers, holds of the
-- qualifying apexes of any row (QualifyingLaws.antt).

-- every apex kept is a qualifying one: `kept-qualify` in proofs/Account.antt
abbrev pub KeptQualify : Type 0
KeptQualify = (d : ℕ) (y : List Float) (qs : List ℕ) → All (λ k. k ∈ qs) (keep_all d y [] qs)

-- the apexes kept descend, so that they ascend from the oldest on: `kept-descend`
abbrev pub KeptDescend : Type 0
KeptDescend = (d : ℕ) (y : List Float) (qs : List ℕ) → Ascending qs → Descending (keep_all d y [] qs)

-- any two apexes kept are at least d apart: `kept-apart`
abbrev pub KeptApart : Type 0
KeptApart =
    (d : ℕ) (y : List Float) (qs : List ℕ) → Ascending qs
    → (i j : ℕ) → i ∈ keep_all d y [] qs → j ∈ keep_all d y [] qs → i ≢ j → d ≤ dist i j

-- every qualifying apex is kept, or gives way, step by step, to one that is: `all-accounted`
abbrev pub AllAccounted : Type 0
AllAccounted = (d : ℕ) (y : List Float) (qs : List ℕ) → Ascending qs → NoNan y qs → All (Accounted d y qs (keep_all d y [] qs)) qs

-- with a least distance of 0 or 1 every qualifying apex is kept: `all-kept`
abbrev pub AllKept : Type 0
AllKept = (d : ℕ) (y : List Float) (qs : List ℕ) → d ≤ 1 → Ascending qs → keep_all d y [] qs ≡ reverse qs

-- no more apexes are kept than qualify: `kept-length`
abbrev pub FewKept : Type 0
FewKept = (d : ℕ) (y : List Float) (qs : List ℕ) → length (keep_all d y [] qs) ≤ length qs
