-- Stitching: two passes over a list of peaks, and the owner column.
use Rattle.std.specs.Prelude.{List, map, ℕ, length}
use Rattle.row_record.specs.declared.ImPeak1D.{ImPeak1D}
use Rattle.sort_digits.specs.Sorted.{up_to}
use Rattle.stitch_matching.specs.declared.StitchParams.{StitchParams}
use Rattle.stitch_keys.specs.declared.KeyRule.TheVariants.{First, Second}
use Rattle.stitch_grouping.specs.Grouping.{pass_groups, pass_peaks, number_in}

-- the groups of the first pass, and its peaks
abbrev pub first_groups : StitchParams → List ImPeak1D → List (List ℕ)
first_groups params ps = pass_groups (First params) params ps

abbrev pub first_peaks : StitchParams → List ImPeak1D → List ImPeak1D
first_peaks params ps = pass_peaks (First params) params ps

-- the groups of the second pass, over the peaks of the first
abbrev pub second_groups : StitchParams → List ImPeak1D → List (List ℕ)
second_groups params ps = pass_groups Second params (first_peaks params ps)

-- its peaks: the stitched ones
unfoldable pub stitched : StitchParams → List ImPeak1D → List ImPeak1D
stitched params ps = pass_peaks Second params (first_peaks params ps)

-- the owner of a peak, by its place: the place of the stitched peak into which the passes bring it, merged or alone
unfoldable pub owner_of : StitchParams → List ImPeak1D → ℕ → ℕ
owner_of params ps k = number_in (second_groups params ps) (number_in (first_groups params ps) k)

-- the owner column
abbrev pub owners_of : StitchParams → List ImPeak1D → List ℕ
owners_of params ps = map (owner_of params ps) (up_to (length ps))
