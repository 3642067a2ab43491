-- What holds of a pass over a list of peaks, and of both passes.
use Rattle.std.specs.Prelude.{ℕ, ◌<◌, ◌≤◌, length, get_or}
use mathlib.Core.List.{List, [], Memᴰ}
use Rattle.row_record.specs.declared.ImPeak1D.{ImPeak1D}
use Rattle.stitch_matching.specs.declared.StitchParams.{StitchParams}
use Rattle.stitch_keys.specs.declared.KeyRule.{KeyRule}
use Rattle.stitch_grouping.specs.Grouping.{pass_groups, number_in}
use Rattle.stitch_passes.specs.Stitching.{stitched, owner_of}

-- every peak is in the group of its number: `pass-group` in proofs/PassLaws.antt
abbrev pub EachGrouped : Type 0
EachGrouped =
    (rule : KeyRule) (params : StitchParams) (ps : List ImPeak1D) (k : ℕ) → k < length ps
    → Memᴰ k (get_or (pass_groups rule params ps) (number_in (pass_groups rule params ps) k) [])

-- and that number is one of a group: `pass-number`
abbrev pub EachNumbered : Type 0
EachNumbered =
    (rule : KeyRule) (params : StitchParams) (ps : List ImPeak1D) (k : ℕ) → k < length ps
    → number_in (pass_groups rule params ps) k < length (pass_groups rule params ps)

-- so every owner is one of the stitched peaks: `owner-lt`
abbrev pub EachOwned : Type 0
EachOwned = (params : StitchParams) (ps : List ImPeak1D) (k : ℕ) → k < length ps → owner_of params ps k < length (stitched params ps)

-- at most as many stitched peaks as peaks: `stitched-count`
abbrev pub FewStitched : Type 0
FewStitched = (params : StitchParams) (ps : List ImPeak1D) → length (stitched params ps) ≤ length ps
