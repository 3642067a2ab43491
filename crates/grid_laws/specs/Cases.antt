-- A worked case, which need not be read to know what is promised: a grid of two rows `0 4 0` and `0 8 0` that is accepted, with one peak
-- in each.
use Rattle.std.specs.Prelude.{◌≡◌, refl, [], ◌∷◌, map, ◌*◌}
use Rattle.std.specs.Float.Ieee.{of_int, of_bits, to_bits, add, sub, mul, div, lt, le, ne, is_nan, to_unsigned}
use Rattle.refusal.specs.Refusal.{first_of}
use Rattle.numeric.specs.Arith.{index_f, 𝟎}
use Rattle.numeric.specs.Numeric.{max_f, in_range, all_in_range}
use Rattle.rounding.specs.Rounding.{round_f}
use Rattle.row_apex.specs.Apex.{is_candidate, candidates_to, left_of, up_to_higher, least, baseline, prominence, half_height, run_above, part_way, left_crossing, right_crossing}
use Rattle.row_spans.specs.Span.{width_of}
use Rattle.row_record.specs.Record.{size}
use Rattle.row_params.specs.Params.{sound_params, sound_bounds, all_up_to, rising, rising_from}
use Rattle.std.specs.Prelude.{None}
use Rattle.row_search.specs.Suppression.{keep, keep_all}
use Rattle.row_search.specs.Qualifying.{highest_reading, left_x, right_x, width, qualifies, that_qualify, qualifying, kept}
use Rattle.row_smoothed.specs.SmoothRow.{searched}
use Rattle.tof_scale.specs.Tof.{sound_step, sound_ends, agreeing}
use Rattle.grid_rows.specs.Grid.{Grid, listed_in, count_from, count_to}
use Rattle.grid.specs.GridNumber.{grid_number}
use Rattle.grid_rows.specs.Steps.{grid_of}

-- floor, distance, width and frames are 0, and nothing is smoothed
abbrev grid : Grid
grid =
    grid_of 3 (map index_f (0 ∷ 4 ∷ 0 ∷ 0 ∷ 8 ∷ 0 ∷ [])) (7 ∷ 8 ∷ 9 ∷ [])
    (record { tof_min = 0; tof_max = 1; tof_step = 1; num_bins = 2 })
    (record { rt_lo = 0; rt_hi = 0; frame_id_lo = 0; frame_id_hi = 0; window_group = None })
    []
    (record { min_prom = 𝟎; min_distance_scans = 0; min_width_scans = 0 })
    []
    40

accepted : grid_number grid 2 (2 * size) 3 ≡ 0
unfolding grid_number first_of all_in_range in_range sound_params sound_bounds sound_step sound_ends agreeing all_up_to rising rising_from of_int of_bits to_bits
accepted = refl

listed : (listed_in grid 0 ∷ listed_in grid 1 ∷ []) ≡ ((1 ∷ []) ∷ (1 ∷ []) ∷ [])
unfolding listed_in searched kept qualifying highest_reading that_qualify qualifies keep_all keep candidates_to is_candidate left_x right_x width width_of left_of up_to_higher least baseline prominence half_height run_above part_way left_crossing right_crossing max_f round_f add sub mul div lt le ne is_nan of_int of_bits to_unsigned
listed = refl

count : count_to grid 2 ≡ 2
unfolding count_from listed_in searched kept qualifying highest_reading that_qualify qualifies keep_all keep candidates_to is_candidate left_x right_x width width_of left_of up_to_higher least baseline prominence half_height run_above part_way left_crossing right_crossing max_f round_f add sub mul div lt le ne is_nan of_int of_bits to_unsigned
count = refl
