-- Worked cases, by computation; they need not be read to know what is promised: a row that is accepted, with one peak, and what
-- reversed TOF bounds do.
use Rattle.std.specs.Prelude.{◌≡◌, refl, true, false, List, [], ◌∷◌, map, ℕ, Float}
use Rattle.std.specs.Float.Ieee.{of_int, of_bits, to_bits, add, sub, mul, div, lt, le, ne, is_nan, to_unsigned}
use Rattle.numeric.specs.Arith.{index_f}
use Rattle.numeric.specs.Numeric.{max_f, min_f, abs_f, clamp_f, lerp_f, quad_f, in_range, all_in_range}
use Rattle.refusal.specs.Refusal.{first_of}
use Rattle.rounding.specs.Rounding.{floor_f, ceil_f, round_f}
use Rattle.row_apex.specs.Apex.{is_candidate, candidates_to, left_of, up_to_higher, least, baseline, prominence, half_height, run_above, part_way, left_crossing, right_crossing}
use Rattle.row_area.specs.Area.{height_at, strip, within, head, whole, tail, across, between, area_f}
use Rattle.row_spans.specs.Span.{width_of}
use Rattle.row_record.specs.Record.{size, sound, sound_tof, sound_frames, sound_options, sound_scans, sound_shape}
use Rattle.row_params.specs.Params.{sound_params, sound_bounds, all_up_to, rising_from, rising}
use Rattle.row_params.specs.Params.{sound_tof as sound_place}
use Rattle.row_params.specs.declared.ImDetectParams.{ImDetectParams}
use Rattle.row_params.specs.declared.RowPlace.{RowPlace}
use Rattle.row_params.specs.declared.FrameBounds.{FrameBounds}
use Rattle.std.specs.Prelude.{None}
use Rattle.row_search.specs.Suppression.{keep, keep_all}
use Rattle.row_search.specs.Qualifying.{highest_reading, left_x, right_x, width, qualifies, that_qualify, qualifying, kept}
use Rattle.row.specs.Row.{subscan, peak_of}
use Rattle.row.specs.RowNumber.{same_lengths, sound_readings, sound_values, sound_axis, row_number}

-- the row 0 4 1 0, searched as it is, over the scans 10 20 30 50
abbrev row : List Float
row = map index_f (0 ∷ 4 ∷ 1 ∷ 0 ∷ [])

abbrev axis : List ℕ
axis = 10 ∷ 20 ∷ 30 ∷ 50 ∷ []

abbrev asks : ImDetectParams
asks = record { min_prom = index_f 1; min_distance_scans = 0; min_width_scans = 1 }

abbrev frames : FrameBounds
frames = record { rt_lo = 3; rt_hi = 5; frame_id_lo = 7; frame_id_hi = 9; window_group = None }

-- with these TOF bounds
abbrev from : ℕ → ℕ → RowPlace
from lo hi = record { tof_row = 2; tof_center = 101; tof_lo = lo; tof_hi = hi }

accepted : row_number row row (from 100 102) frames [] asks axis 0 size ≡ 0
unfolding row_number first_of same_lengths sound_readings sound_values sound_axis sound_params sound_bounds sound_place all_in_range in_range all_up_to rising rising_from of_int to_bits
accepted = refl

one-peak : kept asks row row ≡ 1 ∷ []
unfolding kept qualifying highest_reading that_qualify qualifies keep_all keep candidates_to is_candidate left_x right_x width width_of left_of up_to_higher least baseline prominence half_height run_above part_way left_crossing right_crossing max_f round_f add sub mul div lt le ne is_nan of_int of_bits to_unsigned
one-peak = refl

-- its record is sound
passes : sound (peak_of (from 100 102) frames [] axis row row 1 0) ≡ true
unfolding sound sound_tof sound_frames sound_options sound_scans sound_shape peak_of subscan quad_f abs_f clamp_f min_f area_f between within across head whole tail strip height_at lerp_f in_range left_x right_x width width_of left_of up_to_higher least baseline prominence half_height run_above part_way left_crossing right_crossing max_f round_f floor_f ceil_f add sub mul div lt le ne is_nan of_int of_bits to_bits to_unsigned
passes = refl

-- Reversed TOF bounds are accepted, and pass into the record, which number 9 then refuses.
reversed-accepted : row_number row row (from 102 100) frames [] asks axis 0 size ≡ 0
unfolding row_number first_of same_lengths sound_readings sound_values sound_axis sound_params sound_bounds sound_place all_in_range in_range all_up_to rising rising_from of_int to_bits
reversed-accepted = refl

reversed-refused : sound (peak_of (from 102 100) frames [] axis row row 1 0) ≡ false
unfolding sound sound_tof peak_of
reversed-refused = refl
