-- The twelve cases, by computation.
use mathlib.Core.Path.{refl}
use lib.Ieee.{add, sub, mul, div, neg, lt, le, ne, is_nan, of_int, of_bits, to_bits, to_unsigned}
use Rattle.refusal.specs.Refusal.{first_of}
use Rattle.numeric.specs.Numeric.{max_f, min_f, abs_f, clamp_f, lerp_f, quad_f, in_range, all_in_range}
use Rattle.rounding.specs.Rounding.{floor_f, ceil_f, round_f}
use Rattle.row_apex.specs.Apex.{is_candidate, candidates_to, left_of, up_to_higher, least, baseline, prominence, half_height, run_above, part_way, left_crossing, right_crossing}
use Rattle.row_area.specs.Area.{height_at, strip, within, head, whole, tail, across, between, area_f}
use Rattle.row_spans.specs.Span.{width_of, span_of}
use Rattle.row_record.specs.Record.{peak_from, sound, sound_tof, sound_frames, sound_options, sound_scans, sound_shape}
use Rattle.row_params.specs.Params.{sound_params, sound_bounds, sound_tof as sound_place, all_up_to, rising, rising_from}
use Rattle.row_search.specs.Suppression.{keep, keep_all}
use Rattle.row_search.specs.Qualifying.{highest_reading, left_x, right_x, width, qualifies, that_qualify, qualifying, kept}
use Rattle.row.specs.Row.{subscan, peak_of, row_words}
use Rattle.row.specs.RowNumber.{same_lengths, sound_readings, sound_values, sound_axis, row_number}
use Rattle.sort_digits.specs.Sorted.{up_to}
use Rattle.tof_scale.specs.Tof.{sound_step, sound_ends, agreeing, scale_number, lowest_tof, highest_tof, scale_of}
use Rattle.tof_scale.specs.TofAnswers.{build_number, build_answer, bin_answer}
use Rattle.rt_params.specs.Modes.{effective_f}
use Rattle.sort_rank.specs.Rank.{counted, first_at, ranked, rank_f}
use Rattle.rt_noise.specs.Noise.{middle, noise_f, noise_number}
use Rattle.rt_time.specs.Time.{time_between, never_falls, never_falls_from}
use Rattle.rt_record.specs.RtRecord.{group_word, rt_peak_of}
use Rattle.rt_fallback.specs.Fallback.{top_from, sums_from, centroid, time_of, apex_of, bounds_of, fallback_of}
use Rattle.rt_fallback.specs.FallbackNumber.{fallback_lengths, fallback_sizes, fallback_values, fallback_axes, fallback_number}
use Rattle.account.specs.Twelve.{TwelveHold}

pub twelve-hold : TwelveHold
unfolding row_number same_lengths sound_readings sound_values sound_axis sound_params sound_bounds sound_place all_in_range in_range all_up_to rising rising_from first_of row_words peak_of subscan up_to kept keep_all keep qualifying highest_reading that_qualify qualifies candidates_to is_candidate left_x right_x width width_of left_of up_to_higher least baseline prominence half_height run_above part_way left_crossing right_crossing quad_f abs_f clamp_f min_f max_f area_f between within across head whole tail strip height_at lerp_f round_f floor_f ceil_f build_answer build_number bin_answer scale_number sound_step sound_ends agreeing lowest_tof highest_tof scale_of effective_f fallback_number fallback_lengths fallback_sizes fallback_values fallback_axes never_falls never_falls_from fallback_of top_from sums_from centroid time_of apex_of bounds_of peak_from sound sound_tof sound_frames sound_options sound_scans sound_shape group_word rt_peak_of time_between span_of middle noise_f noise_number rank_f ranked first_at counted add sub mul div neg lt le ne is_nan of_int of_bits to_bits to_unsigned
twelve-hold =
    ((refl, refl), ((refl, refl), ((refl, refl), ((refl, refl), ((refl, refl), ((refl, refl), ((refl, refl), ((refl, refl), (refl, (refl, (refl, (refl, (refl, ((refl, refl), ((refl, refl, refl), (refl, tt))))))))))))))))
