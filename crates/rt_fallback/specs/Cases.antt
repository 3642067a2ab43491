-- Worked cases, by computation; they need not be read to know what is promised.
use Rattle.std.specs.Prelude.{◌≡◌, refl, List, [], ◌∷◌, map, ℕ, Float}
use Rattle.std.specs.Float.{binary32}
use Rattle.std.specs.Float.Ieee.{of_bits, to_bits, of_int, neg, add, sub, mul, div, lt, le, ne, is_nan, to_unsigned}
use Rattle.numeric.specs.Arith.{index_f, 𝟏}
use Rattle.numeric.specs.Numeric.{max_f, min_f, clamp_f, lerp_f, in_range, all_in_range}
use Rattle.rounding.specs.Rounding.{floor_f, ceil_f, round_f}
use Rattle.refusal.specs.Refusal.{first_of}
use Rattle.row_params.specs.Params.{rising, rising_from}
use Rattle.row_apex.specs.Apex.{left_of, least, run_above, part_way, left_crossing, right_crossing}
use Rattle.row_area.specs.Area.{height_at, strip, within, head, whole, tail, across, between, area_f}
use Rattle.row_record.specs.Record.{peak_from, sound_tof, sound_frames, sound_options, sound_scans, sound_shape, sound}
use Rattle.row_spans.specs.Span.{width_of, span_of}
use Rattle.rt_time.specs.Time.{time_between, never_falls, never_falls_from}
use Rattle.rt_record.specs.RtRecord.{group_word, rt_peak_of}
use Rattle.rt_fallback.specs.Fallback.{top_from, sums_from, centroid, time_of, apex_of, bounds_of, fallback_of}
use Rattle.rt_fallback.specs.FallbackNumber.{fallback_lengths, fallback_sizes, fallback_values, fallback_axes, fallback_number, with_fallback, fallback_peak}

-- the record of a mobility peak with these flags, in window group 3, TOF row 11, frames 15 to 16 and with the identity 17
abbrev mobility : ℕ → List ℕ
mobility flags =
    11 ∷ 12 ∷ 13 ∷ 14 ∷ 1 ∷ 2 ∷ 15 ∷ 16 ∷ flags ∷ 3 ∷ 4 ∷ 3 ∷ 5 ∷ 40 ∷ 30 ∷ 50 ∷ 0 ∷ 0 ∷ 0x4120_0000 ∷ 0x4120_0000 ∷ 0x4120_0000 ∷ 0x4040_0000 ∷ 0x40a0_0000 ∷ 2 ∷ 0x4118_0000 ∷ 0 ∷ 17 ∷ []

-- the words of the fallback's peak at a quarter of the height, with the identity 99; none without one
abbrev quarter : Float
quarter = of_bits binary32 0x3e80_0000

abbrev words : List ℕ → List ℕ → List ℕ → ℕ → List ℕ
words trace ids times flags = with_fallback [] (fallback_peak (map index_f trace) ids (map index_f times) (mobility flags) quarter 99)

-- case (j) of document 01: the right end lies at 7.5, so that the width is 8, and the area is 9.5. The centre of mass lies at 25 / 27,
-- that is half a frame from frame 0 at most, and the time midway between 1 and 2. Frames 0 to 2 have the numbers 5 and 8.
beyond : words (10 ∷ 9 ∷ 8 ∷ []) (5 ∷ 7 ∷ 8 ∷ []) (1 ∷ 2 ∷ 4 ∷ []) 7
    ≡ 0 ∷ 0x3fc0_0000 ∷ 0x4120_0000 ∷ 0x4120_0000 ∷ 0x4000_0000 ∷ 0 ∷ 0x40f0_0000 ∷ 8 ∷ 0x4118_0000 ∷ 0x3f00_0000
    ∷ 0 ∷ 2 ∷ 5 ∷ 8 ∷ 1 ∷ 3 ∷ 11 ∷ 12 ∷ 13 ∷ 14 ∷ 17 ∷ 99 ∷ []
unfolding fallback_of top_from sums_from centroid time_of apex_of bounds_of peak_from group_word rt_peak_of time_between least left_of run_above part_way left_crossing right_crossing span_of width_of area_f between within across head whole tail strip height_at lerp_f max_f min_f clamp_f floor_f ceil_f round_f add sub mul div lt le ne is_nan neg of_int of_bits to_bits to_unsigned
beyond = refl

-- The left end lies right of the right one, 6.5 and 2: width and area are 0. There are no frame numbers, so that the mobility
-- peak's are taken, and no window group: its word does not count.
turned : words (9 ∷ 8 ∷ 10 ∷ []) [] (1 ∷ 2 ∷ 4 ∷ 8 ∷ []) 6
    ≡ 1 ∷ 0x4004_bda1 ∷ 0x4120_0000 ∷ 0x4120_0000 ∷ 0x4000_0000 ∷ 0x40d0_0000 ∷ 0x4000_0000 ∷ 0 ∷ 0 ∷ 0x3d17_b420
    ∷ 2 ∷ 2 ∷ 15 ∷ 16 ∷ 0 ∷ 0 ∷ 11 ∷ 12 ∷ 13 ∷ 14 ∷ 17 ∷ 99 ∷ []
unfolding fallback_of top_from sums_from centroid time_of apex_of bounds_of peak_from group_word rt_peak_of time_between least left_of run_above part_way left_crossing right_crossing span_of width_of area_f between within across head whole tail strip height_at lerp_f max_f min_f clamp_f floor_f ceil_f round_f add sub mul div lt le ne is_nan neg of_int of_bits to_bits to_unsigned
turned = refl

-- a left end before the trace, at -6.5
before : words (9 ∷ 10 ∷ []) [] (1 ∷ 2 ∷ []) 1
    ≡ 0 ∷ 0x3fc0_0000 ∷ 0x4120_0000 ∷ 0x4120_0000 ∷ 0x3f80_0000 ∷ 0xc0d0_0000 ∷ 0x3f80_0000 ∷ 8 ∷ 0x4118_0000 ∷ 0x3f00_0000
    ∷ 0 ∷ 1 ∷ 15 ∷ 16 ∷ 1 ∷ 3 ∷ 11 ∷ 12 ∷ 13 ∷ 14 ∷ 17 ∷ 99 ∷ []
unfolding fallback_of top_from sums_from centroid time_of apex_of bounds_of peak_from group_word rt_peak_of time_between least left_of run_above part_way left_crossing right_crossing span_of width_of area_f between within across head whole tail strip height_at lerp_f max_f min_f clamp_f floor_f ceil_f round_f add sub mul div lt le ne is_nan neg of_int of_bits to_bits to_unsigned
before = refl

-- bounds that change places, 7 and 3, with fewer frame numbers than readings
ordered : words (20 ∷ 18 ∷ 21 ∷ 2 ∷ 0 ∷ 0 ∷ 0 ∷ 0 ∷ []) (10 ∷ 20 ∷ 30 ∷ 40 ∷ 50 ∷ 60 ∷ []) (1 ∷ 2 ∷ 4 ∷ 8 ∷ 16 ∷ 32 ∷ 64 ∷ 128 ∷ []) 1
    ≡ 1 ∷ 0x400a_7de7 ∷ 0x41a8_0000 ∷ 0x41a8_0000 ∷ 0x41a8_0000 ∷ 0x40ec_0000 ∷ 0x4035_0d79 ∷ 0 ∷ 0 ∷ 0x3da7_de70
    ∷ 3 ∷ 7 ∷ 40 ∷ 60 ∷ 1 ∷ 3 ∷ 11 ∷ 12 ∷ 13 ∷ 14 ∷ 17 ∷ 99 ∷ []
unfolding fallback_of top_from sums_from centroid time_of apex_of bounds_of peak_from group_word rt_peak_of time_between least left_of run_above part_way left_crossing right_crossing span_of width_of area_f between within across head whole tail strip height_at lerp_f max_f min_f clamp_f floor_f ceil_f round_f add sub mul div lt le ne is_nan neg of_int of_bits to_bits to_unsigned
ordered = refl

-- no reading above 0, and no reading
zeros : words (0 ∷ 0 ∷ []) [] (1 ∷ 2 ∷ []) 1 ≡ []
unfolding fallback_of top_from lt le of_int of_bits
zeros = refl

none : words [] [] [] 1 ≡ []
unfolding fallback_of top_from le of_bits
none = refl

-- ---- numbers, lowest first: a time axis shorter than its trace, a fraction above 1, a time below the one before it, an unknown flag,
-- a word too few, and none of these

abbrev number : List ℕ → Float → ℕ → ℕ → ℕ
number times frac flags room = fallback_number (map index_f (10 ∷ 9 ∷ 8 ∷ [])) (5 ∷ 7 ∷ []) (map index_f times) (mobility flags) frac room

short-axis : number (1 ∷ 2 ∷ []) (index_f 2) 8 21 ≡ 1
unfolding fallback_number first_of fallback_lengths
short-axis = refl

high-fraction : number (1 ∷ 2 ∷ 1 ∷ []) (index_f 2) 8 21 ≡ 4
unfolding fallback_number first_of fallback_lengths fallback_sizes fallback_values in_range all_in_range of_int to_bits
high-fraction = refl

falling : number (1 ∷ 2 ∷ 1 ∷ []) 𝟏 8 21 ≡ 7
unfolding fallback_number first_of fallback_lengths fallback_sizes fallback_values fallback_axes in_range all_in_range rising rising_from never_falls never_falls_from lt of_int of_bits to_bits
falling = refl

unsound : number (1 ∷ 2 ∷ 2 ∷ []) 𝟏 8 21 ≡ 9
unfolding fallback_number first_of fallback_lengths fallback_sizes fallback_values fallback_axes in_range all_in_range rising rising_from never_falls never_falls_from peak_from sound sound_tof sound_frames sound_options sound_scans sound_shape lt le of_int of_bits to_bits
unsound = refl

no_room : number (1 ∷ 2 ∷ 2 ∷ []) 𝟏 7 21 ≡ 20
unfolding fallback_number first_of fallback_lengths fallback_sizes fallback_values fallback_axes in_range all_in_range rising rising_from never_falls never_falls_from peak_from sound sound_tof sound_frames sound_options sound_scans sound_shape lt le of_int of_bits to_bits
no_room = refl

taken : number (1 ∷ 2 ∷ 2 ∷ []) 𝟏 7 22 ≡ 0
unfolding fallback_number first_of fallback_lengths fallback_sizes fallback_values fallback_axes in_range all_in_range rising rising_from never_falls never_falls_from peak_from sound sound_tof sound_frames sound_options sound_scans sound_shape lt le of_int of_bits to_bits
taken = refl
