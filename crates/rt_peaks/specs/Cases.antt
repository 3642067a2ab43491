-- Worked cases, by computation; they need not be read to know what is promised.
use Rattle.std.specs.Prelude.{◌≡◌, refl, List, [], ◌∷◌, map, ℕ, Float}
use Rattle.std.specs.Float.{binary32}
use Rattle.std.specs.Float.Ieee.{of_int, of_bits, to_bits, neg, add, sub, mul, div, lt, le, ne, is_nan, to_unsigned}
use Rattle.refusal.specs.Refusal.{first_of}
use Rattle.numeric.specs.Arith.{index_f, 𝟎}
use Rattle.numeric.specs.Numeric.{max_f, min_f, abs_f, clamp_f, lerp_f, quad_f, in_range, all_in_range}
use Rattle.rounding.specs.Rounding.{round_f}
use Rattle.row_apex.specs.Apex.{is_candidate, candidates_to, left_of, up_to_higher, least, baseline, prominence, half_height, run_above, part_way, left_crossing, right_crossing}
use Rattle.row_area.specs.Area.{height_at, strip, within, head, whole, tail, across, between, area_f}
use Rattle.row_spans.specs.Span.{width_of}
use Rattle.row_search.specs.Qualifying.{highest_reading, left_x, right_x, width, qualifies, that_qualify, qualifying}
use Rattle.rt_time.specs.Time.{time_between, time_at, never_falls_from, never_falls}
use Rattle.rt_params.specs.Modes.{effective_f, sound_mode}
use Rattle.rt_params.specs.declared.ThresholdMode.{ThresholdMode}
use Rattle.rt_params.specs.declared.ThresholdMode.TheVariants.{Fixed, AdaptiveNoise}
use Rattle.sort_rank.specs.Rank.{counted, first_at, ranked, rank_f}
use Rattle.rt_noise.specs.Noise.{middle, noise_f}
use Rattle.rt_choice.specs.Chosen.{near_any, choose, choose_all, passing}
use Rattle.rt_choice.specs.Ranking.{before, inserted_by, ordered_by}
use Rattle.rt_record.specs.declared.RtLocalPeak.{RtLocalPeak}
use Rattle.rt_apex.specs.InTime.{subframe, apex_time, seconds_of, apex_area, local_peak_of}
use Rattle.rt_listing.specs.Shares.{total_area, largest, trace_area, best_area, meets_shares}
use Rattle.rt_search.specs.Retention.{is_wide, rt_qualifying, higher_first, earlier_first, chosen_apexes, listed_apexes, rt_peaks}
use Rattle.rt_peaks.specs.Trace.{RtCall, call_of, floor_of, peaks_of, same_lengths, sound_readings, sound_values, rt_number}

-- whole numbers as readings
abbrev row : List ℕ → List Float
row xs = map index_f xs

-- ---- numbers: five frames at 0, 1, 1, 2, 3 s, with a fixed threshold of 0 unless said

abbrev five : List Float
five = row (0 ∷ 5 ∷ 0 ∷ 9 ∷ 0 ∷ [])

abbrev times : List Float
times = row (0 ∷ 1 ∷ 1 ∷ 2 ∷ 3 ∷ [])

abbrev call : RtCall
call = call_of five five times (Fixed 𝟎) 𝟎 𝟎

-- room for two records, and for the order
accepted : rt_number call 26 5 ≡ 0
unfolding rt_number first_of same_lengths sound_readings sound_values sound_mode never_falls never_falls_from all_in_range in_range lt of_int of_bits to_bits
accepted = refl

no_frames : rt_number (call_of [] [] [] (Fixed 𝟎) 𝟎 𝟎) 0 0 ≡ 0
unfolding rt_number first_of same_lengths sound_readings sound_values sound_mode never_falls never_falls_from all_in_range in_range lt of_int of_bits to_bits
no_frames = refl

raw-shorter : rt_number (call_of five (row (0 ∷ 5 ∷ 0 ∷ 9 ∷ [])) times (Fixed 𝟎) 𝟎 𝟎) 26 5 ≡ 1
unfolding rt_number first_of same_lengths sound_readings sound_values sound_mode never_falls never_falls_from all_in_range in_range lt of_int of_bits to_bits
raw-shorter = refl

times-longer : rt_number (call_of five five (row (0 ∷ 1 ∷ 2 ∷ 3 ∷ 4 ∷ 5 ∷ [])) (Fixed 𝟎) 𝟎 𝟎) 26 5 ≡ 1
unfolding rt_number first_of same_lengths sound_readings sound_values sound_mode never_falls never_falls_from all_in_range in_range lt of_int of_bits to_bits
times-longer = refl

-- the float after 2^32: too high for a raw reading and not for a smoothed one
raw-too-high : rt_number (call_of (𝟎 ∷ 𝟎 ∷ []) (𝟎 ∷ of_bits binary32 0x4f80_0001 ∷ []) (𝟎 ∷ 𝟎 ∷ []) (Fixed 𝟎) 𝟎 𝟎) 0 2 ≡ 3
unfolding rt_number first_of same_lengths sound_readings sound_values sound_mode never_falls never_falls_from all_in_range in_range lt of_int of_bits to_bits
raw-too-high = refl

smoothed-high : rt_number (call_of (𝟎 ∷ of_bits binary32 0x4f80_0001 ∷ []) (𝟎 ∷ 𝟎 ∷ []) (𝟎 ∷ 𝟎 ∷ []) (Fixed 𝟎) 𝟎 𝟎) 0 2 ≡ 0
unfolding rt_number first_of same_lengths sound_readings sound_values sound_mode never_falls never_falls_from all_in_range in_range lt of_int of_bits to_bits
smoothed-high = refl

-- a threshold of minus zero, a separation, a width and a time above 2^20
minus-threshold : rt_number (call_of five five times (AdaptiveNoise (of_bits binary32 0x8000_0000)) 𝟎 𝟎) 26 5 ≡ 4
unfolding rt_number first_of same_lengths sound_readings sound_values sound_mode never_falls never_falls_from all_in_range in_range lt of_int of_bits to_bits
minus-threshold = refl

separation-long : rt_number (call_of five five times (Fixed 𝟎) (of_bits binary32 0x4980_0001) 𝟎) 26 5 ≡ 4
unfolding rt_number first_of same_lengths sound_readings sound_values sound_mode never_falls never_falls_from all_in_range in_range lt of_int of_bits to_bits
separation-long = refl

width-long : rt_number (call_of five five times (Fixed 𝟎) 𝟎 (of_bits binary32 0x4980_0001)) 26 5 ≡ 4
unfolding rt_number first_of same_lengths sound_readings sound_values sound_mode never_falls never_falls_from all_in_range in_range lt of_int of_bits to_bits
width-long = refl

time-late : rt_number (call_of (𝟎 ∷ []) (𝟎 ∷ []) (of_bits binary32 0x4980_0001 ∷ []) (Fixed 𝟎) 𝟎 𝟎) 0 1 ≡ 4
unfolding rt_number first_of same_lengths sound_readings sound_values sound_mode never_falls never_falls_from all_in_range in_range lt of_int of_bits to_bits
time-late = refl

-- times that fall; too little room, and too little scratch
times-fall : rt_number (call_of five five (row (0 ∷ 1 ∷ 2 ∷ 4 ∷ 3 ∷ [])) (Fixed 𝟎) 𝟎 𝟎) 26 5 ≡ 7
unfolding rt_number first_of same_lengths sound_readings sound_values sound_mode never_falls never_falls_from all_in_range in_range lt of_int of_bits to_bits
times-fall = refl

no_room : rt_number call 25 4 ≡ 20
unfolding rt_number first_of same_lengths sound_readings sound_values sound_mode never_falls never_falls_from all_in_range in_range lt of_int of_bits to_bits
no_room = refl

no-scratch : rt_number call 26 4 ≡ 21
unfolding rt_number first_of same_lengths sound_readings sound_values sound_mode never_falls never_falls_from all_in_range in_range lt of_int of_bits to_bits
no-scratch = refl

-- ---- the floor: the noise of 1 3 2 9 2 is 1.4826

abbrev frames : ThresholdMode → List ℕ
frames mode =
    map (λ (p : RtLocalPeak). p.apex.rt_idx) (peaks_of (call_of (row (1 ∷ 3 ∷ 2 ∷ 9 ∷ 2 ∷ [])) (row (1 ∷ 3 ∷ 2 ∷ 9 ∷ 2 ∷ [])) (row (0 ∷ 1 ∷ 2 ∷ 3 ∷ 4 ∷ [])) mode 𝟎 𝟎))

-- a fixed threshold of 0 is raised to 4.4478, which the prominence of 7 reaches and that of 1 does not
raised : frames (Fixed 𝟎) ≡ 3 ∷ []
unfolding listed_apexes chosen_apexes rt_qualifying is_wide higher_first earlier_first before ordered_by inserted_by passing choose_all choose near_any seconds_of apex_time subframe time_at time_between quad_f clamp_f max_f min_f abs_f lerp_f qualifying highest_reading that_qualify qualifies candidates_to is_candidate left_x right_x width width_of left_of up_to_higher least baseline prominence half_height run_above part_way left_crossing right_crossing round_f apex_area area_f between within across head whole tail strip height_at total_area largest trace_area best_area meets_shares add sub mul div lt le ne is_nan of_int of_bits to_bits neg to_unsigned rt_peaks local_peak_of floor_of peaks_of effective_f noise_f middle rank_f ranked first_at counted
raised = refl

-- no part of the noise: both reach a floor of 0
of-no-noise : frames (AdaptiveNoise 𝟎) ≡ 1 ∷ 3 ∷ []
unfolding listed_apexes chosen_apexes rt_qualifying is_wide higher_first earlier_first before ordered_by inserted_by passing choose_all choose near_any seconds_of apex_time subframe time_at time_between quad_f clamp_f max_f min_f abs_f lerp_f qualifying highest_reading that_qualify qualifies candidates_to is_candidate left_x right_x width width_of left_of up_to_higher least baseline prominence half_height run_above part_way left_crossing right_crossing round_f apex_area area_f between within across head whole tail strip height_at total_area largest trace_area best_area meets_shares add sub mul div lt le ne is_nan of_int of_bits to_bits neg to_unsigned rt_peaks local_peak_of floor_of peaks_of effective_f noise_f middle rank_f ranked first_at counted
of-no-noise = refl

-- five times the noise is above 7
five-times : frames (AdaptiveNoise (index_f 5)) ≡ []
unfolding listed_apexes chosen_apexes rt_qualifying is_wide higher_first earlier_first before ordered_by inserted_by passing choose_all choose near_any seconds_of apex_time subframe time_at time_between quad_f clamp_f max_f min_f abs_f lerp_f qualifying highest_reading that_qualify qualifies candidates_to is_candidate left_x right_x width width_of left_of up_to_higher least baseline prominence half_height run_above part_way left_crossing right_crossing round_f apex_area area_f between within across head whole tail strip height_at total_area largest trace_area best_area meets_shares add sub mul div lt le ne is_nan of_int of_bits to_bits neg to_unsigned rt_peaks local_peak_of floor_of peaks_of effective_f noise_f middle rank_f ranked first_at counted
five-times = refl
