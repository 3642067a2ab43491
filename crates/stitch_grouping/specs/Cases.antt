-- Worked cases, each by computation; they need not be read to know what is promised.
use Rattle.std.specs.Prelude.{◌≡◌, refl, List, [], ◌∷◌, ℕ}
use Rattle.std.specs.Float.Ieee.{add, sub, div, of_int, of_bits, to_bits, lt, le, is_nan}
use Rattle.numeric.specs.Numeric.{max_f}
use Rattle.row_record.specs.declared.ImPeak1D.{ImPeak1D}
use Rattle.stitch_peaks.specs.Extremes.{extreme}
use Rattle.sort_digits.specs.Sorted.{lex_lt, inserted, sorted_by, up_to}
use Rattle.stitch_matching.specs.Cases.{peak, asked, a, b}
use Rattle.stitch_matching.specs.Matching.{samples, overlap, jaccard_f, enough_common, at_most, group_of}
use Rattle.stitch_matching.specs.Matching.{same_group, rows_near, frames_overlap, scans_overlap, inside, apexes_inside, compatible}
use Rattle.stitch_matching.specs.Group.{row_span, scan_span, within_limits, may_join}
use Rattle.stitch_keys.specs.declared.KeyRule.{KeyRule}
use Rattle.stitch_keys.specs.declared.KeyRule.TheVariants.{First, Second}
use Rattle.stitch_keys.specs.Keys.{group_there, group_number, bucket_of, key_of}
use Rattle.stitch_grouping.specs.Grouping.{bucket_by, follows, groups_from, groups, pass_groups}
use Rattle.stitch_grouping.specs.Walk.{numbered, marked}

-- a peak in row 102, one in row 200 and one in row 100, of which the first and the last fit together
abbrev pub three : List ImPeak1D
three = b ∷ peak 200 5 14 1 7 22 17 29 4 ∷ a ∷ []

-- a pass over them, with a row limit of 2
abbrev pub pass : KeyRule → List (List ℕ)
pass rule = pass_groups rule (asked 2 10) three

-- In the first pass rows 100 and 102 stand apart, since their buckets differ: each has three rows, from a multiple of 3 on. Scans go
-- by tens, and all three are of one interval, so that rows decide: 33, 34 and 66.
pub first-pass : pass (First (asked 2 10)) ≡ (2 ∷ []) ∷ (0 ∷ []) ∷ (1 ∷ []) ∷ []
unfolding pass_groups sorted_by inserted lex_lt up_to key_of group_there group_number bucket_of bucket_by groups groups_from follows may_join within_limits row_span scan_span extreme compatible same_group group_of rows_near at_most frames_overlap scans_overlap enough_common overlap jaccard_f samples apexes_inside inside max_f is_nan lt le add sub div of_int of_bits to_bits
first-pass = refl

-- the second pass joins them
pub second-pass : pass Second ≡ (2 ∷ 0 ∷ []) ∷ (1 ∷ []) ∷ []
unfolding pass_groups sorted_by inserted lex_lt up_to key_of group_there group_number bucket_of bucket_by groups groups_from follows may_join within_limits row_span scan_span extreme compatible same_group group_of rows_near at_most frames_overlap scans_overlap enough_common overlap jaccard_f samples apexes_inside inside max_f is_nan lt le add sub div of_int of_bits to_bits
second-pass = refl

-- and this is its column, where place 3 has no peak
pub second-column : marked 0 ((2 ∷ 0 ∷ []) ∷ (1 ∷ []) ∷ []) (9 ∷ 9 ∷ 9 ∷ 9 ∷ []) ≡ 0 ∷ 1 ∷ 0 ∷ 9 ∷ []
unfolding marked numbered
second-column = refl

-- Two peaks of one group and row: the one at the lower scan comes first, though its first frame is the later one. So the group that
-- takes in both has their places in the order 1, 0.
pub scan-before-frame : pass_groups Second (asked 2 10) (peak 100 0 9 1 7 22 17 29 1 ∷ peak 100 5 14 1 7 20 15 25 2 ∷ []) ≡ (1 ∷ 0 ∷ []) ∷ []
unfolding pass_groups sorted_by inserted lex_lt up_to key_of group_there group_number bucket_of bucket_by groups groups_from follows may_join within_limits row_span scan_span extreme compatible same_group group_of rows_near at_most frames_overlap scans_overlap enough_common overlap jaccard_f samples apexes_inside inside max_f is_nan lt le add sub div of_int of_bits to_bits
scan-before-frame = refl
