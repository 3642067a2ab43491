-- When two peaks may be joined.
use Rattle.std.specs.Prelude.{Bool, not, cond, ◌&&◌, ◌||◌, ℕ, ◌+◌, ◌-◌, ◌^◌, min, max, leb, eqb, nat_eq, Option, Float}
use Rattle.std.specs.Bool.{then_some}
use Rattle.std.specs.Option.{option_eq}
use Rattle.std.specs.Float.Ieee.{lt, le}
use Rattle.limits.specs.Limits.{max_count}
use Rattle.numeric.specs.Arith.{◌⊕◌, ◌⊖◌, ◌⊘◌, 𝟎, 𝟏, index_f}
use Rattle.numeric.specs.Numeric.{in_range, max_f}
use Rattle.row_record.specs.Record.{has_group}
use Rattle.row_record.specs.declared.ImPeak1D.{ImPeak1D}
use Rattle.stitch_matching.specs.declared.StitchParams.{StitchParams}

-- ---- number 4: counts to 65,535, shares from 0 to 1

abbrev pub count : ℕ → Bool
count n = leb n max_count

-- the bit pattern of the highest share, 1
abbrev pub max_share : ℕ
max_share = 0x3f80_0000

abbrev pub is_share : Float → Bool
is_share x = in_range max_share x

unfoldable pub sound_stitch : StitchParams → Bool
sound_stitch p =
    count p.min_overlap_frames && count p.max_scan_delta && is_share p.jaccard_min
    && count p.max_tof_row_delta && count p.min_im_overlap_scans && is_share p.im_jaccard_min

-- ---- intervals of samples, ends included

-- the samples from lo to hi, none if lo is above hi; held to 2 ^ 32 - 1, which only the interval of all numbers passes
unfoldable pub samples : ℕ → ℕ → ℕ
samples lo hi = min (hi + 1 - lo) (2 ^ 32 - 1)

-- the samples that two intervals have in common
unfoldable pub overlap : ℕ → ℕ → ℕ → ℕ → ℕ
overlap lo_a hi_a lo_b hi_b = samples (max lo_a lo_b) (min hi_a hi_b)

-- the share of their union that they have in common
unfoldable pub jaccard_f : ℕ → ℕ → ℕ → ℕ → Float
jaccard_f lo_a hi_a lo_b hi_b =
    let common = index_f (overlap lo_a hi_a lo_b hi_b) in
    let union = index_f (samples lo_a hi_a) ⊕ index_f (samples lo_b hi_b) ⊖ common in
    cond (le common 𝟎) 𝟎 (common ⊘ max_f union 𝟏)

-- at least so many samples in common, and a share of the union not below the least share, if that is above 0
unfoldable pub enough_common : ℕ → Float → ℕ → ℕ → ℕ → ℕ → Bool
enough_common least least_share lo_a hi_a lo_b hi_b =
    leb least (overlap lo_a hi_a lo_b hi_b) && not (lt 𝟎 least_share && lt (jaccard_f lo_a hi_a lo_b hi_b) least_share)

-- ---- the tests of two peaks a and b

-- at most a limit, where a limit of 0 is none
unfoldable pub at_most : ℕ → ℕ → Bool
at_most limit n = eqb limit 0 || leb n limit

-- the window group, where there is one
unfoldable pub group_of : ImPeak1D → Option ℕ
group_of p = then_some (has_group p) p.window_group

-- one window group, unless crossing is allowed
unfoldable pub same_group : StitchParams → ImPeak1D → ImPeak1D → Bool
same_group p a b = p.allow_cross_groups || option_eq nat_eq (group_of a) (group_of b)

-- rows no further apart than the row limit; a limit of 0 does not look at rows
unfoldable pub rows_near : StitchParams → ImPeak1D → ImPeak1D → Bool
rows_near p a b = at_most p.max_tof_row_delta (max a.tof_row b.tof_row - min a.tof_row b.tof_row)

-- enough frames in common
unfoldable pub frames_overlap : StitchParams → ImPeak1D → ImPeak1D → Bool
frames_overlap p a b = enough_common p.min_overlap_frames p.jaccard_min a.rt_lo a.rt_hi b.rt_lo b.rt_hi

-- enough scans in common, by index in the row
unfoldable pub scans_overlap : StitchParams → ImPeak1D → ImPeak1D → Bool
scans_overlap p a b = enough_common p.min_im_overlap_scans p.im_jaccard_min a.left a.right b.left b.right

-- a scan from lo to hi, compared as floats
unfoldable pub inside : ℕ → ℕ → ℕ → Bool
inside lo hi scan = le (index_f lo) (index_f scan) && le (index_f scan) (index_f hi)

-- both apexes within the absolute scans that the two have in common, where that is asked for
unfoldable pub apexes_inside : StitchParams → ImPeak1D → ImPeak1D → Bool
apexes_inside p a b =
    let lo = max a.left_abs b.left_abs in
    let hi = min a.right_abs b.right_abs in
    not p.require_mutual_apex_inside || (leb lo hi && inside lo hi a.scan_abs && inside lo hi b.scan_abs)

-- two peaks that follow each other may stand in one group
unfoldable pub compatible : StitchParams → ImPeak1D → ImPeak1D → Bool
compatible p a b = same_group p a b && rows_near p a b && frames_overlap p a b && scans_overlap p a b && apexes_inside p a b
