-- What the walk over sorted peaks keeps and writes.
use Rattle.std.specs.Prelude.{◌≡◌, ℕ, ◌+◌, ◌-◌, ◌*◌, ◌<◌, length, get_or, take, drop, set}
use mathlib.Core.List.{List, [], ◌∷◌, ◌++◌, foldl, Memᴰ}
use Rattle.row_record.specs.Record.{size, peak_at}
use Rattle.row_record.specs.declared.ImPeak1D.{ImPeak1D}
use Rattle.stitch_peaks.specs.PeakList.{nth, list_words}
use Rattle.stitch_matching.specs.declared.StitchParams.{StitchParams}
use Rattle.stitch_keys.specs.declared.KeyRule.{KeyRule}
use Rattle.stitch_grouping.specs.Grouping.{groups, group_peaks}

-- the records of `sorted` are those of the peaks ps, in the order of the places
abbrev pub Gathered : List ImPeak1D → List ℕ → List ℕ → Type 0
Gathered ps sorted order = (i : ℕ) → i < length order → peak_at sorted i ≡ nth ps (get_or order i 0)

-- every place is one of a column
abbrev pub Columned : List ℕ → List ℕ → Type 0
Columned column order = (p : ℕ) → Memᴰ p order → p < length column

-- the places of an order from i to before k
unfoldable pub part : List ℕ → ℕ → ℕ → List ℕ
part order i k = take (k - i) (drop i order)

-- the first group of the places from i on has those to before k
abbrev pub Cut : KeyRule → StitchParams → List ImPeak1D → List ℕ → ℕ → ℕ → Type 0
Cut rule params ps order i k = groups rule params ps (drop i order) ≡ part order i k ∷ groups rule params ps (drop k order)

-- a column with a number at each of some places
unfoldable pub numbered : ℕ → List ℕ → List ℕ → List ℕ
numbered k qs column = foldl (λ so p. set so p k) column qs

-- a column with its group's number at each member's place, where the groups are counted from k
unfoldable pub marked : ℕ → List (List ℕ) → List ℕ → List ℕ
marked k [] column = column
marked k (g ∷ gs) column = marked (k + 1) gs (numbered k g column)

-- what a walk leaves: how many groups there are, their merged peaks at the front of a list, and in a column, at each member's place, its
-- group's number
pub record Grouped (rule : KeyRule) (params : StitchParams) (ps : List ImPeak1D) (order merged₀ column₀ : List ℕ) (count : ℕ) (merged column : List ℕ) : Type 0 where
  pub counted : count ≡ length (groups rule params ps order)
  pub records : merged ≡ list_words (group_peaks ps (groups rule params ps order)) ++ drop (count * size) merged₀
  pub marks : column ≡ marked 0 (groups rule params ps order) column₀
