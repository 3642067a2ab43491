-- Worked cases, each by computation; they need not be read to know what is promised.
use Rattle.std.specs.Prelude.{◌≡◌, refl, true, false, [], ◌∷◌, ℕ, ◌+◌, ◌*◌}
use Rattle.std.specs.Float.{binary32}
use Rattle.std.specs.Float.Ieee.{add, sub, div, of_int, of_bits, to_bits, lt, le, is_nan}
use Rattle.numeric.specs.Arith.{𝟎, index_f}
use Rattle.numeric.specs.Numeric.{max_f}
use Rattle.row_record.specs.declared.ImPeak1D.{ImPeak1D}
use Rattle.stitch_matching.specs.declared.StitchParams.{StitchParams}
use Rattle.stitch_matching.specs.Matching.{samples, overlap, jaccard_f, enough_common, at_most, group_of}
use Rattle.stitch_matching.specs.Matching.{same_group, rows_near, frames_overlap, scans_overlap, inside, apexes_inside, compatible}
use Rattle.stitch_peaks.specs.Extremes.{extreme}
use Rattle.stitch_matching.specs.Group.{row_span, scan_span, within_limits, may_join}

-- ---- intervals

-- 0 to 9 and 5 to 14 have 5 of 15 samples in common; 0 to 4 and 5 to 9 none
pub in-common : overlap 0 9 5 14 ≡ 5
unfolding overlap samples
in-common = refl

pub a-third : to_bits binary32 (jaccard_f 0 9 5 14) ≡ 0x3eaa_aaab
unfolding jaccard_f overlap samples max_f is_nan lt le add sub div of_int of_bits to_bits
a-third = refl

pub apart : overlap 0 4 5 9 ≡ 0
unfolding overlap samples
apart = refl

pub no-share : to_bits binary32 (jaccard_f 0 4 5 9) ≡ 0
unfolding jaccard_f overlap samples max_f is_nan lt le add sub div of_int of_bits to_bits
no-share = refl

-- the one count that is held, that of all numbers that a word can be, and the number next below it are the same float
pub held : to_bits binary32 (index_f 4294967296) ≡ 0x4f80_0000
unfolding of_int to_bits
held = refl

pub next-below : to_bits binary32 (index_f 4294967295) ≡ 0x4f80_0000
unfolding of_int to_bits
next-below = refl

-- ---- two peaks

-- a peak with the fields that stitching looks at: its absolute scans go by twos, from 50 on
abbrev pub peak : (row first last flags group scan left right id : ℕ) → ImPeak1D
peak row first last flags group scan left right id =
    record {
      tof_row = row;
      tof_center = 0;
      tof_lo = 0;
      tof_hi = 0;
      rt_lo = first;
      rt_hi = last;
      frame_id_lo = 0;
      frame_id_hi = 0;
      flags = flags;
      window_group = group;
      scan = scan;
      left = left;
      right = right;
      scan_abs = scan * 2 + 50;
      left_abs = left * 2 + 50;
      right_abs = right * 2 + 50;
      scan_sigma = 𝟎;
      mobility = 𝟎;
      apex_smoothed = 𝟎;
      apex_raw = 𝟎;
      prominence = 𝟎;
      left_x = 𝟎;
      right_x = 𝟎;
      width_scans = 0;
      area_raw = 𝟎;
      subscan = 𝟎;
      id = id;
    }

-- 3 frames in common and a share of all, some scans and a share of all, both apexes within, no crossing of groups; with limits for rows and
-- scans
abbrev pub asks_shares : (share scans scan_share row_limit scan_limit : ℕ) → StitchParams
asks_shares share scans scan_share row_limit scan_limit =
    record {
      min_overlap_frames = 3;
      max_scan_delta = scan_limit;
      jaccard_min = of_bits binary32 share;
      max_tof_row_delta = row_limit;
      allow_cross_groups = false;
      min_im_overlap_scans = scans;
      im_jaccard_min = of_bits binary32 scan_share;
      require_mutual_apex_inside = true;
    }

-- no share of scans
abbrev pub asks : (share scans row_limit scan_limit : ℕ) → StitchParams
asks share scans row_limit scan_limit = asks_shares share scans 0 row_limit scan_limit

-- a quarter of all frames, and 1 scan
abbrev pub asked : (row_limit scan_limit : ℕ) → StitchParams
asked row_limit scan_limit = asks 0x3e80_0000 1 row_limit scan_limit

-- two peaks of group 7 with apexes at 20 and 22, in 15 to 25 and 17 to 29, and one in the row below the first
abbrev pub a : ImPeak1D
a = peak 100 0 9 1 7 20 15 25 1

abbrev pub b : ImPeak1D
b = peak 102 5 14 1 7 22 17 29 2

abbrev pub below : ImPeak1D
below = peak 99 0 9 1 7 20 15 25 3

-- In this order: the two fit together; not with a row limit of 1; a limit of 0 does not look at rows; not if an apex lies
-- outside the absolute scans in common, 84 to 100; groups are the same if both are missing, whatever their words; not if one is; a
-- member in row 99 keeps row 102 out of a group whose newest member is compatible; limits of 0 do not.
pub peaks-together :
    compatible (asked 2 10) a b
    ∷ compatible (asked 1 10) a b
    ∷ compatible (asked 0 10) a (peak 4000 5 14 1 7 22 17 29 2)
    ∷ compatible (asked 2 10) a (peak 102 5 14 1 7 28 17 29 2)
    ∷ compatible (asked 2 10) (peak 100 0 9 0 7 20 15 25 1) (peak 102 5 14 0 8 22 17 29 2)
    ∷ compatible (asked 2 10) a (peak 102 5 14 0 7 22 17 29 2)
    ∷ may_join (asked 2 10) (a ∷ below ∷ []) b
    ∷ may_join (asked 0 0) (a ∷ below ∷ []) b
    ∷ []
    ≡ true ∷ false ∷ true ∷ false ∷ true ∷ false ∷ false ∷ true ∷ []
unfolding may_join within_limits row_span scan_span extreme compatible same_group group_of rows_near at_most frames_overlap scans_overlap enough_common overlap jaccard_f samples apexes_inside inside max_f is_nan lt le add sub div of_int of_bits
peaks-together = refl

-- A third of all frames is exactly met, and the next float above it is not; the 9 scans in common are counted in the row, where
-- there are 17 absolute ones; of the 15 scans of the row they are three fifths, which is exactly met, and the next float above it is
-- not; the absolute apexes lie 4 apart, those in the row 2.
pub just-met :
    compatible (asks 0x3eaa_aaab 1 2 10) a b
    ∷ compatible (asks 0x3eaa_aaac 1 2 10) a b
    ∷ compatible (asks 0x3e80_0000 9 2 10) a b
    ∷ compatible (asks 0x3e80_0000 10 2 10) a b
    ∷ compatible (asks_shares 0x3e80_0000 9 0x3f19_999a 2 10) a b
    ∷ compatible (asks_shares 0x3e80_0000 9 0x3f19_999b 2 10) a b
    ∷ may_join (asked 2 4) (a ∷ []) b
    ∷ may_join (asked 2 3) (a ∷ []) b
    ∷ []
    ≡ true ∷ false ∷ true ∷ false ∷ true ∷ false ∷ true ∷ false ∷ []
unfolding may_join within_limits row_span scan_span extreme compatible same_group group_of rows_near at_most frames_overlap scans_overlap enough_common overlap jaccard_f samples apexes_inside inside max_f is_nan lt le add sub div of_int of_bits
just-met = refl
