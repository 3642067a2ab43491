-- Worked cases, each by computation; they need not be read to know what is promised.
use Rattle.std.specs.Prelude.{◌≡◌, refl, List, [], ◌∷◌, map, ℕ}
use Rattle.std.proofs.Common.{ap, ◌∙◌}
use Rattle.std.specs.Float.Ieee.{add, sub, mul, div, of_int, of_bits, to_bits, lt, le, is_nan, round, to_unsigned}
use Rattle.numeric.specs.Numeric.{max_f}
use Rattle.row_record.specs.Record.{peak_at, peak_from}
use Rattle.row_record.specs.declared.ImPeak1D.{ImPeak1D}
use Rattle.stitch_peaks.specs.Extremes.{extreme, is_any}
use Rattle.stitch_peaks.specs.PeakList.{list_words}
use Rattle.sort_digits.specs.Sorted.{lex_lt, inserted, sorted_by, up_to}
use Rattle.stitch_matching.specs.Cases.{asked}
use Rattle.stitch_matching.specs.Matching.{samples, overlap, jaccard_f, enough_common, at_most, group_of}
use Rattle.stitch_matching.specs.Matching.{same_group, rows_near, frames_overlap, scans_overlap, inside, apexes_inside, compatible}
use Rattle.stitch_matching.specs.Group.{row_span, scan_span, within_limits, may_join}
use Rattle.stitch_keys.specs.Keys.{group_there, group_number, bucket_of, key_of}
use Rattle.rounding.specs.Rounding.{round_f}
use Rattle.stitch_merging.specs.Merging.{highest_f, summed, weight, having, have_all, first_of, merged}
use Rattle.stitch_merging.specs.MergingLaws.{retention, scan, low, high}
use Rattle.stitch_grouping.specs.Cases.{three, first-pass}
use Rattle.stitch_grouping.specs.Grouping.{bucket_by, follows, groups_from, groups, group_peaks, pass_groups, has, number_in}
use Rattle.stitch_passes.specs.Stitching.{first_groups, first_peaks, second_groups, stitched, owner_of, owners_of}
use Rattle.stitch_passes.specs.Account.{places_of, members_of}

-- Three peaks, in rows 102, 200 and 100: the first pass leaves each alone, in the order of the rows, and the second joins the first
-- two of its peaks.
pub second-groups : second_groups (asked 2 10) three ≡ (0 ∷ 1 ∷ []) ∷ (2 ∷ []) ∷ []
unfolding pass_groups sorted_by inserted lex_lt up_to key_of group_there group_number bucket_of bucket_by groups groups_from follows may_join within_limits row_span scan_span extreme compatible same_group group_of rows_near at_most frames_overlap scans_overlap enough_common overlap jaccard_f samples apexes_inside inside max_f is_nan lt le add sub div of_int of_bits to_bits group_peaks merged highest_f summed weight having is_any have_all first_of round_f mul round to_unsigned
second-groups = refl

-- so rows 102 and 100 come to the stitched peak 0, and row 200 to the stitched peak 1
pub owners : owners_of (asked 2 10) three ≡ 0 ∷ 1 ∷ 0 ∷ []
unfolding up_to number_in has owner_of
owners =
    ap (λ (gs : List (List ℕ)). map (λ k. number_in gs (number_in (first_groups (asked 2 10) three) k)) (up_to 3)) second-groups
    ∙ ap (λ (gs : List (List ℕ)). map (λ k. number_in ((0 ∷ 1 ∷ []) ∷ (2 ∷ []) ∷ []) (number_in gs k)) (up_to 3)) first-pass

-- which are its members
pub members : members_of (owners_of (asked 2 10) three) 3 0 ≡ 0 ∷ 2 ∷ []
unfolding members_of places_of up_to
members = ap (λ (l : List ℕ). members_of l 3 0) owners

-- Its frames run from those of row 100 to those of row 102, and so do its scans; its identity is that of row 100. All are read from the
-- words of the list.
abbrev pub bounds : ImPeak1D → List ℕ
bounds p = low retention p ∷ high retention p ∷ low scan p ∷ high scan p ∷ p.id ∷ []

pub stitched-bounds : bounds (peak_at (list_words (stitched (asked 2 10) three)) 0) ≡ 0 ∷ 14 ∷ 15 ∷ 29 ∷ 1 ∷ []
unfolding stitched group_peaks merged extreme low high list_words peak_from
stitched-bounds =
    ap (λ (gs : List (List ℕ)). bounds (peak_at (list_words (group_peaks (first_peaks (asked 2 10) three) gs)) 0)) second-groups
    ∙ ap (λ (gs : List (List ℕ)). bounds (peak_at (list_words (group_peaks (group_peaks three gs) ((0 ∷ 1 ∷ []) ∷ (2 ∷ []) ∷ []))) 0)) first-pass
