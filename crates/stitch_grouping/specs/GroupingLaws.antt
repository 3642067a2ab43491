-- What holds of the groups into which places are cut in their order, and of the column that bears the groups' numbers.
use Rattle.std.specs.Prelude.{◌≡◌, ℕ, ◌<◌, ◌≤◌, length, get_or}
use mathlib.Core.List.{List, [], flatten, Memᴰ, Nodup}
use Rattle.row_record.specs.declared.ImPeak1D.{ImPeak1D}
use Rattle.stitch_peaks.specs.PeakListLaws.{AllFit}
use Rattle.stitch_matching.specs.declared.StitchParams.{StitchParams}
use Rattle.stitch_keys.specs.declared.KeyRule.{KeyRule}
use Rattle.stitch_grouping.specs.Grouping.{groups, group_peaks}
use Rattle.stitch_grouping.specs.Walk.{marked}

-- joined again, the groups are the places in their order, so that every place is in a group: `groups-flatten` in proofs/GroupingLaws.antt
abbrev pub GroupsJoin : Type 0
GroupsJoin = (rule : KeyRule) (params : StitchParams) (ps : List ImPeak1D) (order : List ℕ) → flatten (groups rule params ps order) ≡ order

-- no group is empty: `groups-some`
abbrev pub NoneEmpty : Type 0
NoneEmpty = (rule : KeyRule) (params : StitchParams) (ps : List ImPeak1D) (order g : List ℕ) → Memᴰ g (groups rule params ps order) → 0 < length g

-- at most as many groups as places: `groups-count`
abbrev pub FewGroups : Type 0
FewGroups = (rule : KeyRule) (params : StitchParams) (ps : List ImPeak1D) (order : List ℕ) → length (groups rule params ps order) ≤ length order

-- where no place stands twice, a member of the j-th group has the number j in the column: `member-number`
abbrev pub MemberNumber : Type 0
MemberNumber =
    (rule : KeyRule) (params : StitchParams) (ps : List ImPeak1D) (order column : List ℕ) (p : ℕ) → Nodup order → p < length column
    → (j : ℕ) → Memᴰ p (get_or (groups rule params ps order) j []) → get_or (marked 0 (groups rule params ps order) column) p 0 ≡ j

-- and a place that is not among them keeps its number: `other-number`
abbrev pub OtherNumber : Type 0
OtherNumber =
    (rule : KeyRule) (params : StitchParams) (ps : List ImPeak1D) (order column : List ℕ) (p : ℕ) → (Memᴰ p order → ⊥)
    → get_or (marked 0 (groups rule params ps order) column) p 0 ≡ get_or column p 0

-- Merged groups of peaks whose floats are of binary32 have such floats too, so that they are read as they were written:
-- `groups-fit` in proofs/Fits.antt
abbrev pub GroupsFit : Type 0
GroupsFit = (ps : List ImPeak1D) (gs : List (List ℕ)) → AllFit ps → AllFit (group_peaks ps gs)
