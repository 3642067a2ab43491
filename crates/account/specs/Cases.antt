-- Worked cases, by computation; they need not be read to know what is promised. There is something to explain: a grid, a list and a run that are
-- accepted, with a qualifying apex that is not listed, with two peaks that come to one, and with a retention apex that is missing for
-- either reason.
use Rattle.refusal.specs.declared.Refusal.{Refusal}
use Rattle.std.specs.Prelude.{Result, Ok, Some}
use Rattle.std.specs.Prelude.{◌≡◌, refl, true, false, List, [], ◌∷◌, map, ℕ, ◌*◌, length, replicate, Float}
use Rattle.std.specs.Float.Ieee.{of_int, of_bits, to_bits, neg, add, sub, mul, div, lt, le, eq, ne, is_nan, to_unsigned}
use Rattle.refusal.specs.Refusal.{first_of}
use Rattle.numeric.specs.Arith.{index_f, 𝟎, 𝟏, at}
use Rattle.numeric.specs.Numeric.{max_f, min_f, abs_f, clamp_f, lerp_f, quad_f, in_range, all_in_range}
use Rattle.rounding.specs.Rounding.{floor_f, round_f}
use Rattle.row_smoothing.specs.Smoothing.{tabulate, sum_from, normalised, weighted, met, smoothed_at, smoothed, sound_weights}
use Rattle.row_apex.specs.Apex.{is_candidate, candidates_to, left_of, up_to_higher, least, baseline, prominence, half_height, run_above, part_way, left_crossing, right_crossing}
use Rattle.row_area.specs.Area.{height_at, strip, within, head, whole, tail, across, between, area_f}
use Rattle.row_spans.specs.Span.{width_of}
use Rattle.row_record.specs.Record.{size, peak_from, peak_at, sound, sound_tof, sound_frames, sound_options, sound_scans, sound_shape, all_sound}
use Rattle.row_record.specs.declared.ImPeak1D.{ImPeak1D}
use Rattle.row_params.specs.Params.{sound_params, sound_bounds, all_up_to, rising, rising_from}
use Rattle.std.specs.Prelude.{None}
use Rattle.row_search.specs.Suppression.{keep, keep_all}
use Rattle.row_search.specs.Qualifying.{highest_reading, left_x, right_x, width, qualifies, that_qualify, qualifying, kept}
use Rattle.row_smoothed.specs.SmoothRow.{searched}
use Rattle.tof_scale.specs.Tof.{window_bins, sound_step, sound_ends, agreeing}
use Rattle.grid_rows.specs.Grid.{Grid, listed_in}
use Rattle.grid_rows.specs.Steps.{grid_of}
use Rattle.grid.specs.GridNumber.{grid_number}
use Rattle.sort_digits.specs.Sorted.{up_to}
use Rattle.frames_index.specs.IndexNumber.{index_number}
use Rattle.frames_index.specs.FrameIndex.{climbs_from, climbs_to, frames_rise_from, frames_rise, sound_lists, seen_in}
use Rattle.frames_sums.specs.Sums.{add_points, add_bins, add_frame, frame_sums}
use Rattle.frames_windows.specs.Windows.{bounds_window}
use Rattle.sort_rank.specs.Rank.{counted, first_at, ranked, rank_f}
use Rattle.rt_noise.specs.Noise.{middle, noise_f}
use Rattle.rt_time.specs.Time.{time_between, time_at, never_falls, never_falls_from}
use Rattle.rt_params.specs.Modes.{effective_f, sound_mode}
use Rattle.rt_params.specs.Expand.{sound_expand}
use Rattle.rt_params.specs.declared.RtExpandParams.{RtExpandParams}
use Rattle.rt_params.specs.declared.ThresholdMode.TheVariants.{Fixed}
use Rattle.expand_padded_window.specs.FrameWindow.{before, frame_with, widened, between as window_between, padded_window}
use Rattle.rt_choice.specs.Chosen.{near_any, choose, choose_all, passing}
use Rattle.rt_choice.specs.Ranking.{before as first, inserted_by, ordered_by}
use Rattle.rt_choice.specs.Times.{near_in_time}
use Rattle.rt_apex.specs.InTime.{subframe, apex_time, seconds_of, apex_area}
use Rattle.rt_listing.specs.Shares.{total_area, largest, trace_area, best_area, meets_shares}
use Rattle.rt_search.specs.Retention.{is_wide, rt_qualifying, higher_first, earlier_first, chosen_apexes, has_shares, listed_apexes}
use Rattle.expand_trace.specs.Trace.{trace_over}
use Rattle.expand_peak.specs.Expanded.{Run, run_of, window_in, floor_of}
use Rattle.expand_numbers.specs.ExpandNumber.{sum_of, all_weights, sound_values, rising_axes, enough_room}
use Rattle.expand.specs.ExpandCall.{Lent, lent_of, many_asks, one_number}
use Rattle.expand_laws.specs.ExpandAccount.{raw_over, smooth_over}
use Rattle.expand.specs.ExpandCall.{OneAnswered}
use Rattle.row_search.specs.Account.{◌∈◌}
use Rattle.grid.specs.Answer.{Answered as GridAnswered}
use Rattle.stitch_matching.specs.Cases.{asked}
use Rattle.stitch.specs.Answer.{Lent as StitchLists, Answered as StitchAnswered}
use Rattle.stitch_laws.specs.Cases.{list, before as lent}
use Rattle.account.specs.Demand3.{qualifying_in, Listed, members, qualifying_over, shares_over, OrdinaryPath, TooClose, ListedFrame}

-- ---- a grid of one row, 0 4 0 6 0 8 0, searched as it is, with a least distance of 3: case (f) of document 01

abbrev pub grid : Grid
grid =
    grid_of 7 (map index_f (0 ∷ 4 ∷ 0 ∷ 6 ∷ 0 ∷ 8 ∷ 0 ∷ [])) (1 ∷ 2 ∷ 3 ∷ 4 ∷ 5 ∷ 6 ∷ 7 ∷ [])
    (record { tof_min = 0; tof_max = 0; tof_step = 1; num_bins = 1 })
    (record { rt_lo = 0; rt_hi = 0; frame_id_lo = 0; frame_id_hi = 0; window_group = None })
    []
    (record { min_prom = 𝟎; min_distance_scans = 3; min_width_scans = 0 })
    []
    0

pub grid-accepted : grid_number grid 1 (3 * size) 7 ≡ 0
unfolding grid_number first_of all_in_range in_range sound_params sound_bounds sound_step sound_ends agreeing all_up_to rising rising_from of_int of_bits to_bits
grid-accepted = refl

-- three apexes qualify, and one is listed
pub grid-qualifying : qualifying_in grid 0 ≡ 1 ∷ 3 ∷ 5 ∷ []
unfolding searched qualifying highest_reading that_qualify qualifies candidates_to is_candidate left_x right_x width width_of left_of up_to_higher least baseline prominence half_height run_above part_way left_crossing right_crossing max_f round_f add sub mul div lt le ne is_nan of_int of_bits to_unsigned
grid-qualifying = refl

pub grid-listed : listed_in grid 0 ≡ 5 ∷ []
unfolding listed_in kept keep_all keep searched qualifying highest_reading that_qualify qualifies candidates_to is_candidate left_x right_x width width_of left_of up_to_higher least baseline prominence half_height run_above part_way left_crossing right_crossing max_f round_f add sub mul div lt le ne is_nan of_int of_bits to_unsigned
grid-listed = refl

-- ---- a run of nine frames with the numbers 10 to 18, a second apart, whose points give a mobility peak the trace 0 1 0 0 0 21 0 5 0

abbrev pub run : Run
run =
    run_of
    (record { starts = 0 ∷ 0 ∷ 1 ∷ 1 ∷ 1 ∷ 1 ∷ 2 ∷ 2 ∷ 3 ∷ 3 ∷ []; bins = 0 ∷ 0 ∷ 0 ∷ []; offsets = 0 ∷ 1 ∷ 2 ∷ 3 ∷ []; scans = 1 ∷ 1 ∷ 1 ∷ []; readings = map index_f (1 ∷ 21 ∷ 5 ∷ []) })
    (10 ∷ 11 ∷ 12 ∷ 13 ∷ 14 ∷ 15 ∷ 16 ∷ 17 ∷ 18 ∷ [])
    (map index_f (0 ∷ 1 ∷ 2 ∷ 3 ∷ 4 ∷ 5 ∷ 6 ∷ 7 ∷ 8 ∷ []))
    (record { tof_min = 0; tof_max = 0; tof_step = 1; num_bins = 1 })

-- a least separation of 3 seconds, a fixed threshold of 1; a window of nine frames is just long enough
abbrev pub params : RtExpandParams
params =
    record {
      bin_pad = 0;
      smooth_sigma_sec = 𝟏;
      min_prom = Fixed 𝟏;
      min_sep_sec = index_f 3;
      min_width_sec = 𝟎;
      fallback_if_frames_lt = 9;
      fallback_frac_width = 𝟏;
      rt_pad_frames = 4;
    }

-- its words: TOF 0 to 1, frame numbers 14 to 15, absolute scans 0 to 2
abbrev pub peak : List ℕ
peak = 0 ∷ 1 ∷ 0 ∷ 1 ∷ 4 ∷ 5 ∷ 14 ∷ 15 ∷ 0 ∷ 0 ∷ 1 ∷ 0 ∷ 2 ∷ 1 ∷ 0 ∷ 2 ∷ 0 ∷ 0 ∷ 0 ∷ 0 ∷ 0 ∷ 0 ∷ 0 ∷ 0 ∷ 0 ∷ 0 ∷ 17 ∷ []

abbrev pub p : ImPeak1D
p = peak_at peak 0

-- nothing is smoothed by one weight alone
abbrev pub weights : List Float
weights = 𝟏 ∷ []

-- lists that are long enough
abbrev pub lists : Lent
lists = lent_of (replicate 88 7) (replicate 9 𝟎) (replicate 9 𝟎) (replicate 9 7)

pub run-accepted : one_number run params peak weights 0 lists ≡ 0
unfolding index_number many_asks first_of seen_in sound_lists climbs_to climbs_from frames_rise frames_rise_from rising rising_from all_up_to all_in_range in_range sound_values sound_expand sound_mode sound_step sound_ends agreeing sum_of all_weights sound_weights rising_axes never_falls never_falls_from enough_room peak_from all_sound sound sound_tof sound_frames sound_options sound_scans sound_shape lt le of_int of_bits to_bits
run-accepted = refl

pub run-window : Some (record { lo = 0; hi = 8 }) ≡ window_in run params p
unfolding padded_window window_between widened frame_with before peak_from
run-window = refl

abbrev pub trace : List Float
trace = map index_f (0 ∷ 1 ∷ 0 ∷ 0 ∷ 0 ∷ 21 ∷ 0 ∷ 5 ∷ 0 ∷ [])

pub run-raw : raw_over run params p 0 8 ≡ trace
unfolding trace_over frame_sums up_to add_frame add_bins add_points bounds_window window_bins peak_from add of_int of_bits
run-raw = refl

one-weight : smoothed weights trace ≡ trace
unfolding smoothed smoothed_at weighted met normalised sum_from tabulate add mul div lt of_int of_bits
one-weight = refl

pub run-smooth : smooth_over run params weights p 0 8 ≡ trace
run-smooth = rw run-raw one-weight

-- the noise is 0
pub run-floor : floor_of params trace ≡ 𝟏
unfolding effective_f noise_f middle rank_f ranked first_at counted abs_f add sub mul neg lt of_int of_bits to_bits
run-floor = refl

abbrev pub seconds : List Float
seconds = map index_f (0 ∷ 1 ∷ 2 ∷ 3 ∷ 4 ∷ 5 ∷ 6 ∷ 7 ∷ 8 ∷ [])

-- three apexes qualify, two are chosen, and one is listed
pub run-qualifying : rt_qualifying 𝟏 𝟎 trace trace seconds ≡ 1 ∷ 5 ∷ 7 ∷ []
unfolding listed_apexes chosen_apexes rt_qualifying is_wide higher_first earlier_first first ordered_by inserted_by passing choose_all choose near_any seconds_of apex_time subframe time_at time_between quad_f clamp_f max_f min_f abs_f lerp_f qualifying highest_reading that_qualify qualifies candidates_to is_candidate left_x right_x width width_of left_of up_to_higher least baseline prominence half_height run_above part_way left_crossing right_crossing round_f floor_f apex_area area_f between within across head whole tail strip height_at total_area largest trace_area best_area meets_shares add sub mul div lt le ne is_nan of_int of_bits to_bits neg to_unsigned
run-qualifying = refl

pub run-chosen : chosen_apexes 𝟏 (index_f 3) 𝟎 trace trace seconds ≡ 5 ∷ 1 ∷ []
unfolding listed_apexes chosen_apexes rt_qualifying is_wide higher_first earlier_first first ordered_by inserted_by passing choose_all choose near_any seconds_of apex_time subframe time_at time_between quad_f clamp_f max_f min_f abs_f lerp_f qualifying highest_reading that_qualify qualifies candidates_to is_candidate left_x right_x width width_of left_of up_to_higher least baseline prominence half_height run_above part_way left_crossing right_crossing round_f floor_f apex_area area_f between within across head whole tail strip height_at total_area largest trace_area best_area meets_shares add sub mul div lt le ne is_nan of_int of_bits to_bits neg to_unsigned
run-chosen = refl

pub run-listed : listed_apexes 𝟏 (index_f 3) 𝟎 trace trace seconds ≡ 5 ∷ []
unfolding listed_apexes chosen_apexes rt_qualifying is_wide higher_first earlier_first first ordered_by inserted_by passing choose_all choose near_any seconds_of apex_time subframe time_at time_between quad_f clamp_f max_f min_f abs_f lerp_f qualifying highest_reading that_qualify qualifies candidates_to is_candidate left_x right_x width width_of left_of up_to_higher least baseline prominence half_height run_above part_way left_crossing right_crossing round_f floor_f apex_area area_f between within across head whole tail strip height_at total_area largest trace_area best_area meets_shares add sub mul div lt le ne is_nan of_int of_bits to_bits neg to_unsigned
run-listed = refl

-- Frame 7 lies too close to frame 5, and frame 1 does not. The area of frame 1 is less than 5% of that of frame 5, and that of frame 7 is
-- more.
pub run-close : near_in_time (apex_time trace seconds) (index_f 3) 7 5 ≡ true
unfolding listed_apexes chosen_apexes rt_qualifying is_wide higher_first earlier_first first ordered_by inserted_by passing choose_all choose near_any seconds_of apex_time subframe time_at time_between quad_f clamp_f max_f min_f abs_f lerp_f qualifying highest_reading that_qualify qualifies candidates_to is_candidate left_x right_x width width_of left_of up_to_higher least baseline prominence half_height run_above part_way left_crossing right_crossing round_f floor_f apex_area area_f between within across head whole tail strip height_at total_area largest trace_area best_area meets_shares add sub mul div lt le ne is_nan of_int of_bits to_bits neg to_unsigned
run-close = refl

pub run-lower : le (at trace 7) (at trace 5) ≡ true
unfolding lt le eq of_int
run-lower = refl

pub run-share : has_shares trace trace (5 ∷ 1 ∷ []) 1 ≡ false
unfolding listed_apexes chosen_apexes rt_qualifying is_wide higher_first earlier_first first ordered_by inserted_by passing choose_all choose near_any seconds_of apex_time subframe time_at time_between quad_f clamp_f max_f min_f abs_f lerp_f qualifying highest_reading that_qualify qualifies candidates_to is_candidate left_x right_x width width_of left_of up_to_higher least baseline prominence half_height run_above part_way left_crossing right_crossing round_f floor_f apex_area area_f between within across head whole tail strip height_at total_area largest trace_area best_area meets_shares add sub mul div lt le ne is_nan of_int of_bits to_bits neg to_unsigned
run-share = refl

pub run-share-best : has_shares trace trace (5 ∷ 1 ∷ []) 5 ≡ true
unfolding listed_apexes chosen_apexes rt_qualifying is_wide higher_first earlier_first first ordered_by inserted_by passing choose_all choose near_any seconds_of apex_time subframe time_at time_between quad_f clamp_f max_f min_f abs_f lerp_f qualifying highest_reading that_qualify qualifies candidates_to is_candidate left_x right_x width width_of left_of up_to_higher least baseline prominence half_height run_above part_way left_crossing right_crossing round_f floor_f apex_area area_f between within across head whole tail strip height_at total_area largest trace_area best_area meets_shares add sub mul div lt le ne is_nan of_int of_bits to_bits neg to_unsigned
run-share-best = refl

pub run-share-met : has_shares trace trace (5 ∷ 1 ∷ []) 7 ≡ true
unfolding listed_apexes chosen_apexes rt_qualifying is_wide higher_first earlier_first first ordered_by inserted_by passing choose_all choose near_any seconds_of apex_time subframe time_at time_between quad_f clamp_f max_f min_f abs_f lerp_f qualifying highest_reading that_qualify qualifies candidates_to is_candidate left_x right_x width width_of left_of up_to_higher least baseline prominence half_height run_above part_way left_crossing right_crossing round_f floor_f apex_area area_f between within across head whole tail strip height_at total_area largest trace_area best_area meets_shares add sub mul div lt le ne is_nan of_int of_bits to_bits neg to_unsigned
run-share-met = refl

pub run-far : near_in_time (apex_time trace seconds) (index_f 3) 1 5 ≡ false
unfolding listed_apexes chosen_apexes rt_qualifying is_wide higher_first earlier_first first ordered_by inserted_by passing choose_all choose near_any seconds_of apex_time subframe time_at time_between quad_f clamp_f max_f min_f abs_f lerp_f qualifying highest_reading that_qualify qualifies candidates_to is_candidate left_x right_x width width_of left_of up_to_higher least baseline prominence half_height run_above part_way left_crossing right_crossing round_f floor_f apex_area area_f between within across head whole tail strip height_at total_area largest trace_area best_area meets_shares add sub mul div lt le ne is_nan of_int of_bits to_bits neg to_unsigned
run-far = refl

-- ==== so there is something to explain, whatever the functions hand back: `cases` in proofs/Cases.antt

-- the grid has one record, and the qualifying apex at index 1 is not listed
pub record GridCase (out : List ℕ) (answer : Result ℕ Refusal) : Type 0 where
  pub answered : answer ≡ Ok 1
  pub qualifies : 1 ∈ qualifying_in grid 0
  pub not_listed : Listed out 1 0 1 → ⊥

-- three peaks come to two, the first and the third to one
pub record StitchCase (is : StitchLists) (answer : Result ℕ Refusal) : Type 0 where
  pub answered : answer ≡ Ok 2
  pub merged : members list is 0 ≡ 0 ∷ 2 ∷ []

-- the mobility peak has one record on the ordinary path; the qualifying apex at frame 7 is missing since it lies too close to another one,
-- and that at frame 1 since it fails a share
pub record RunCase (is : Lent) (answer : Result ℕ Refusal) : Type 0 where
  pub answered : answer ≡ Ok 1
  pub ordinary : OrdinaryPath run params weights p 0 8
  pub qualify : (1 ∈ qualifying_over run params weights p 0 8) × (7 ∈ qualifying_over run params weights p 0 8)
  pub not_listed : (ListedFrame is.out 0 1 1 → ⊥) × (ListedFrame is.out 0 1 7 → ⊥)
  pub close : TooClose run params weights p 0 8 7 × (shares_over run params weights p 0 8 7 ≡ true)
  pub small : (TooClose run params weights p 0 8 1 → ⊥) × (shares_over run params weights p 0 8 1 ≡ false)

pub record SomethingToExplain : Type 0 where
  pub grids : (out₀ out : List ℕ) (scratch₀ scratch : List Float) (answer : Result ℕ Refusal) → length out₀ ≡ 3 * size → length scratch₀ ≡ 7
      → GridAnswered grid 1 out₀ out scratch₀ scratch answer → GridCase out answer
  pub stitching : (is : StitchLists) (answer : Result ℕ Refusal) → StitchAnswered true list (asked 2 10) lent is answer → StitchCase is answer
  pub expansion : (is : Lent) (answer : Result ℕ Refusal) → OneAnswered run params peak weights 0 lists is answer → RunCase is answer
