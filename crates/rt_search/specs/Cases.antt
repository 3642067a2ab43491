-- Worked cases, by computation; they need not be read to know what is promised. The smoothed trace is the raw one, the floor is 0, the
-- least width 0 and the times are 0, 1, 2 .., unless the case says otherwise.
use Rattle.std.specs.Prelude.{◌≡◌, refl, List, [], ◌∷◌, map, ℕ, Float}
use Rattle.std.specs.Float.{binary32}
use Rattle.std.specs.Float.Ieee.{of_int, of_bits, to_bits, neg, add, sub, mul, div, lt, le, ne, is_nan, to_unsigned}
use Rattle.numeric.specs.Arith.{index_f, 𝟎, 𝟏}
use Rattle.numeric.specs.Numeric.{max_f, min_f, abs_f, clamp_f, lerp_f, quad_f}
use Rattle.rounding.specs.Rounding.{round_f}
use Rattle.row_apex.specs.Apex.{is_candidate, candidates_to, left_of, up_to_higher, least, baseline, prominence, half_height, run_above, part_way, left_crossing, right_crossing}
use Rattle.row_area.specs.Area.{height_at, strip, within, head, whole, tail, across, between, area_f}
use Rattle.row_spans.specs.Span.{width_of}
use Rattle.row_search.specs.Qualifying.{highest_reading, left_x, right_x, width, qualifies, that_qualify, qualifying}
use Rattle.rt_time.specs.Time.{time_between, time_at}
use Rattle.rt_choice.specs.Chosen.{near_any, choose, choose_all, passing}
use Rattle.rt_choice.specs.Ranking.{before, inserted_by, ordered_by}
use Rattle.rt_record.specs.RtRecord.{local_words}
use Rattle.rt_apex.specs.InTime.{subframe, apex_time, seconds_of, apex_area, local_peak_of}
use Rattle.rt_listing.specs.Shares.{total_area, largest, trace_area, best_area, meets_shares}
use Rattle.rt_search.specs.Retention.{is_wide, rt_qualifying, higher_first, earlier_first, chosen_apexes, listed_apexes}

-- whole numbers as readings
abbrev row : List ℕ → List Float
row xs = map index_f xs

-- of a floor, a least separation, a trace and its times
abbrev chosen_of : ℕ → ℕ → List ℕ → List ℕ → List ℕ
chosen_of floor sep xs ts = chosen_apexes (index_f floor) (index_f sep) 𝟎 (row xs) (row xs) (row ts)

abbrev listed_of : ℕ → ℕ → List ℕ → List ℕ → List ℕ
listed_of floor sep xs ts = listed_apexes (index_f floor) (index_f sep) 𝟎 (row xs) (row xs) (row ts)

-- of two equal heights the lower index is chosen, ..
equal-heights : chosen_of 0 3 (0 ∷ 5 ∷ 0 ∷ 5 ∷ 0 ∷ []) (0 ∷ 1 ∷ 2 ∷ 3 ∷ 4 ∷ []) ≡ 1 ∷ []
unfolding listed_apexes chosen_apexes rt_qualifying is_wide higher_first earlier_first before ordered_by inserted_by passing choose_all choose near_any seconds_of apex_time subframe time_at time_between quad_f clamp_f max_f min_f abs_f lerp_f qualifying highest_reading that_qualify qualifies candidates_to is_candidate left_x right_x width width_of left_of up_to_higher least baseline prominence half_height run_above part_way left_crossing right_crossing round_f apex_area area_f between within across head whole tail strip height_at total_area largest trace_area best_area meets_shares add sub mul div lt le ne is_nan of_int of_bits to_bits neg to_unsigned
equal-heights = refl

-- .. and both, the lower index first, where they lie no closer than the least separation
far-enough : chosen_of 0 2 (0 ∷ 5 ∷ 0 ∷ 5 ∷ 0 ∷ []) (0 ∷ 1 ∷ 2 ∷ 3 ∷ 4 ∷ []) ≡ 1 ∷ 3 ∷ []
unfolding listed_apexes chosen_apexes rt_qualifying is_wide higher_first earlier_first before ordered_by inserted_by passing choose_all choose near_any seconds_of apex_time subframe time_at time_between quad_f clamp_f max_f min_f abs_f lerp_f qualifying highest_reading that_qualify qualifies candidates_to is_candidate left_x right_x width width_of left_of up_to_higher least baseline prominence half_height run_above part_way left_crossing right_crossing round_f apex_area area_f between within across head whole tail strip height_at total_area largest trace_area best_area meets_shares add sub mul div lt le ne is_nan of_int of_bits to_bits neg to_unsigned
far-enough = refl

-- the higher one is chosen first, and the one that is near it is not
higher-chosen : chosen_of 0 3 (0 ∷ 4 ∷ 0 ∷ 8 ∷ 0 ∷ 5 ∷ 0 ∷ []) (0 ∷ 1 ∷ 2 ∷ 3 ∷ 4 ∷ 6 ∷ 7 ∷ []) ≡ 3 ∷ 5 ∷ []
unfolding listed_apexes chosen_apexes rt_qualifying is_wide higher_first earlier_first before ordered_by inserted_by passing choose_all choose near_any seconds_of apex_time subframe time_at time_between quad_f clamp_f max_f min_f abs_f lerp_f qualifying highest_reading that_qualify qualifies candidates_to is_candidate left_x right_x width width_of left_of up_to_higher least baseline prominence half_height run_above part_way left_crossing right_crossing round_f apex_area area_f between within across head whole tail strip height_at total_area largest trace_area best_area meets_shares add sub mul div lt le ne is_nan of_int of_bits to_bits neg to_unsigned
higher-chosen = refl

-- with equal times the final order is that of the choice: the higher one first
equal-times : listed_of 0 0 (0 ∷ 5 ∷ 0 ∷ 9 ∷ 0 ∷ []) (1 ∷ 1 ∷ 1 ∷ 1 ∷ 1 ∷ []) ≡ 3 ∷ 1 ∷ []
unfolding listed_apexes chosen_apexes rt_qualifying is_wide higher_first earlier_first before ordered_by inserted_by passing choose_all choose near_any seconds_of apex_time subframe time_at time_between quad_f clamp_f max_f min_f abs_f lerp_f qualifying highest_reading that_qualify qualifies candidates_to is_candidate left_x right_x width width_of left_of up_to_higher least baseline prominence half_height run_above part_way left_crossing right_crossing round_f apex_area area_f between within across head whole tail strip height_at total_area largest trace_area best_area meets_shares add sub mul div lt le ne is_nan of_int of_bits to_bits neg to_unsigned
equal-times = refl

-- else that of the times
by-time : listed_of 0 0 (0 ∷ 5 ∷ 0 ∷ 9 ∷ 0 ∷ []) (0 ∷ 1 ∷ 2 ∷ 3 ∷ 4 ∷ []) ≡ 1 ∷ 3 ∷ []
unfolding listed_apexes chosen_apexes rt_qualifying is_wide higher_first earlier_first before ordered_by inserted_by passing choose_all choose near_any seconds_of apex_time subframe time_at time_between quad_f clamp_f max_f min_f abs_f lerp_f qualifying highest_reading that_qualify qualifies candidates_to is_candidate left_x right_x width width_of left_of up_to_higher least baseline prominence half_height run_above part_way left_crossing right_crossing round_f apex_area area_f between within across head whole tail strip height_at total_area largest trace_area best_area meets_shares add sub mul div lt le ne is_nan of_int of_bits to_bits neg to_unsigned
by-time = refl

-- an area of 0.75 beside one of 15: the share of 0.05 is just met
share-met : listed_of 0 0 (0 ∷ 1 ∷ 0 ∷ 20 ∷ 0 ∷ 0 ∷ []) (0 ∷ 1 ∷ 2 ∷ 3 ∷ 4 ∷ 5 ∷ []) ≡ 1 ∷ 3 ∷ []
unfolding listed_apexes chosen_apexes rt_qualifying is_wide higher_first earlier_first before ordered_by inserted_by passing choose_all choose near_any seconds_of apex_time subframe time_at time_between quad_f clamp_f max_f min_f abs_f lerp_f qualifying highest_reading that_qualify qualifies candidates_to is_candidate left_x right_x width width_of left_of up_to_higher least baseline prominence half_height run_above part_way left_crossing right_crossing round_f apex_area area_f between within across head whole tail strip height_at total_area largest trace_area best_area meets_shares add sub mul div lt le ne is_nan of_int of_bits to_bits neg to_unsigned
share-met = refl

-- beside one of 15.75 it is not, though 0.75 of the trace's 22 is more than 0.02
shoulder : listed_of 0 0 (0 ∷ 1 ∷ 0 ∷ 21 ∷ 0 ∷ 0 ∷ []) (0 ∷ 1 ∷ 2 ∷ 3 ∷ 4 ∷ 5 ∷ []) ≡ 3 ∷ []
unfolding listed_apexes chosen_apexes rt_qualifying is_wide higher_first earlier_first before ordered_by inserted_by passing choose_all choose near_any seconds_of apex_time subframe time_at time_between quad_f clamp_f max_f min_f abs_f lerp_f qualifying highest_reading that_qualify qualifies candidates_to is_candidate left_x right_x width width_of left_of up_to_higher least baseline prominence half_height run_above part_way left_crossing right_crossing round_f apex_area area_f between within across head whole tail strip height_at total_area largest trace_area best_area meets_shares add sub mul div lt le ne is_nan of_int of_bits to_bits neg to_unsigned
shoulder = refl

-- .. and the shoulder was chosen
shoulder-chosen : chosen_of 0 0 (0 ∷ 1 ∷ 0 ∷ 21 ∷ 0 ∷ 0 ∷ []) (0 ∷ 1 ∷ 2 ∷ 3 ∷ 4 ∷ 5 ∷ []) ≡ 3 ∷ 1 ∷ []
unfolding listed_apexes chosen_apexes rt_qualifying is_wide higher_first earlier_first before ordered_by inserted_by passing choose_all choose near_any seconds_of apex_time subframe time_at time_between quad_f clamp_f max_f min_f abs_f lerp_f qualifying highest_reading that_qualify qualifies candidates_to is_candidate left_x right_x width width_of left_of up_to_higher least baseline prominence half_height run_above part_way left_crossing right_crossing round_f apex_area area_f between within across head whole tail strip height_at total_area largest trace_area best_area meets_shares add sub mul div lt le ne is_nan of_int of_bits to_bits neg to_unsigned
shoulder-chosen = refl

-- a raw maximum of 5 does not reach a floor of 6, nor does a prominence of 5
low-floor : listed_of 6 0 (0 ∷ 5 ∷ 0 ∷ 5 ∷ 0 ∷ []) (0 ∷ 1 ∷ 2 ∷ 3 ∷ 4 ∷ []) ≡ []
unfolding listed_apexes chosen_apexes rt_qualifying is_wide higher_first earlier_first before ordered_by inserted_by passing choose_all choose near_any seconds_of apex_time subframe time_at time_between quad_f clamp_f max_f min_f abs_f lerp_f qualifying highest_reading that_qualify qualifies candidates_to is_candidate left_x right_x width width_of left_of up_to_higher least baseline prominence half_height run_above part_way left_crossing right_crossing round_f apex_area area_f between within across head whole tail strip height_at total_area largest trace_area best_area meets_shares add sub mul div lt le ne is_nan of_int of_bits to_bits neg to_unsigned
low-floor = refl

-- two frames have no apex
two-frames : listed_of 0 0 (0 ∷ 5 ∷ []) (0 ∷ 1 ∷ []) ≡ []
unfolding listed_apexes chosen_apexes rt_qualifying is_wide higher_first earlier_first before ordered_by inserted_by passing choose_all choose near_any seconds_of apex_time subframe time_at time_between quad_f clamp_f max_f min_f abs_f lerp_f qualifying highest_reading that_qualify qualifies candidates_to is_candidate left_x right_x width width_of left_of up_to_higher least baseline prominence half_height run_above part_way left_crossing right_crossing round_f apex_area area_f between within across head whole tail strip height_at total_area largest trace_area best_area meets_shares add sub mul div lt le ne is_nan of_int of_bits to_bits neg to_unsigned
two-frames = refl

-- the only apex, and so the best: an area of 3 is less than 0.02 of the raw trace's 254
of-the-trace : listed_apexes 𝟎 𝟎 𝟎 (row (0 ∷ 4 ∷ 0 ∷ 0 ∷ 0 ∷ 0 ∷ [])) (row (0 ∷ 4 ∷ 0 ∷ 100 ∷ 100 ∷ 100 ∷ [])) (row (0 ∷ 1 ∷ 2 ∷ 3 ∷ 4 ∷ 5 ∷ [])) ≡ []
unfolding listed_apexes chosen_apexes rt_qualifying is_wide higher_first earlier_first before ordered_by inserted_by passing choose_all choose near_any seconds_of apex_time subframe time_at time_between quad_f clamp_f max_f min_f abs_f lerp_f qualifying highest_reading that_qualify qualifies candidates_to is_candidate left_x right_x width width_of left_of up_to_higher least baseline prominence half_height run_above part_way left_crossing right_crossing round_f apex_area area_f between within across head whole tail strip height_at total_area largest trace_area best_area meets_shares add sub mul div lt le ne is_nan of_int of_bits to_bits neg to_unsigned
of-the-trace = refl

-- a width of a second is enough for a least width of a second, ..
width-met : listed_apexes 𝟎 𝟎 𝟏 (row (0 ∷ 4 ∷ 0 ∷ 0 ∷ [])) (row (0 ∷ 4 ∷ 0 ∷ 0 ∷ [])) (row (0 ∷ 1 ∷ 2 ∷ 3 ∷ [])) ≡ 1 ∷ []
unfolding listed_apexes chosen_apexes rt_qualifying is_wide higher_first earlier_first before ordered_by inserted_by passing choose_all choose near_any seconds_of apex_time subframe time_at time_between quad_f clamp_f max_f min_f abs_f lerp_f qualifying highest_reading that_qualify qualifies candidates_to is_candidate left_x right_x width width_of left_of up_to_higher least baseline prominence half_height run_above part_way left_crossing right_crossing round_f apex_area area_f between within across head whole tail strip height_at total_area largest trace_area best_area meets_shares add sub mul div lt le ne is_nan of_int of_bits to_bits neg to_unsigned
width-met = refl

-- .. and not for the next float, 0x3f80_0001
too-narrow : listed_apexes 𝟎 𝟎 (of_bits binary32 0x3f80_0001) (row (0 ∷ 4 ∷ 0 ∷ 0 ∷ [])) (row (0 ∷ 4 ∷ 0 ∷ 0 ∷ [])) (row (0 ∷ 1 ∷ 2 ∷ 3 ∷ [])) ≡ []
unfolding listed_apexes chosen_apexes rt_qualifying is_wide higher_first earlier_first before ordered_by inserted_by passing choose_all choose near_any seconds_of apex_time subframe time_at time_between quad_f clamp_f max_f min_f abs_f lerp_f qualifying highest_reading that_qualify qualifies candidates_to is_candidate left_x right_x width width_of left_of up_to_higher least baseline prominence half_height run_above part_way left_crossing right_crossing round_f apex_area area_f between within across head whole tail strip height_at total_area largest trace_area best_area meets_shares add sub mul div lt le ne is_nan of_int of_bits to_bits neg to_unsigned
too-narrow = refl

-- All times are 4.9, and yet the apex at 3 is an ulp earlier than that at 1: times between frames are rounded.
an-ulp-earlier : listed_apexes 𝟎 𝟎 𝟎 (row (1 ∷ 7 ∷ 1 ∷ 9 ∷ 2 ∷ [])) (row (1 ∷ 7 ∷ 1 ∷ 9 ∷ 2 ∷ [])) (of_bits binary32 0x409c_cccd ∷ of_bits binary32 0x409c_cccd ∷ of_bits binary32 0x409c_cccd ∷ of_bits binary32 0x409c_cccd ∷ of_bits binary32 0x409c_cccd ∷ []) ≡ 3 ∷ 1 ∷ []
unfolding listed_apexes chosen_apexes rt_qualifying is_wide higher_first earlier_first before ordered_by inserted_by passing choose_all choose near_any seconds_of apex_time subframe time_at time_between quad_f clamp_f max_f min_f abs_f lerp_f qualifying highest_reading that_qualify qualifies candidates_to is_candidate left_x right_x width width_of left_of up_to_higher least baseline prominence half_height run_above part_way left_crossing right_crossing round_f apex_area area_f between within across head whole tail strip height_at total_area largest trace_area best_area meets_shares add sub mul div lt le ne is_nan of_int of_bits to_bits neg to_unsigned
an-ulp-earlier = refl

-- the record of an apex that is not symmetric, over a raw trace of its own and times that are not even: the words of frame, time, heights,
-- prominence, crossings, width in frames, area and subframe, then those of the two ends and of the width in seconds
record-words : local_words (local_peak_of (row (1 ∷ 3 ∷ 10 ∷ 4 ∷ 2 ∷ 0 ∷ [])) (row (0 ∷ 2 ∷ 12 ∷ 5 ∷ 1 ∷ 0 ∷ [])) (row (10 ∷ 11 ∷ 13 ∷ 16 ∷ 20 ∷ 25 ∷ [])) 2)
    ≡ 2 ∷ 0x4151_d89d ∷ 0x4120_0000 ∷ 0x4140_0000 ∷ 0x4110_0000 ∷ 0x3fad_b6dc ∷ 0x4030_0000 ∷ 1 ∷ 0x414a_de0a ∷ 0x3d1d_89d9 ∷ 0x413b_6db7 ∷ 0x4174_0000 ∷ 0x4062_4924 ∷ []
unfolding listed_apexes chosen_apexes rt_qualifying is_wide higher_first earlier_first before ordered_by inserted_by passing choose_all choose near_any seconds_of apex_time subframe time_at time_between quad_f clamp_f max_f min_f abs_f lerp_f qualifying highest_reading that_qualify qualifies candidates_to is_candidate left_x right_x width width_of left_of up_to_higher least baseline prominence half_height run_above part_way left_crossing right_crossing round_f apex_area area_f between within across head whole tail strip height_at total_area largest trace_area best_area meets_shares add sub mul div lt le ne is_nan of_int of_bits to_bits neg to_unsigned local_peak_of
record-words = refl
