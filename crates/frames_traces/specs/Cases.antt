-- Worked cases, each by computation; they need not be read to know what is promised.
use Rattle.std.specs.Prelude.{◌≡◌, refl, [], ◌∷◌, map, ℕ}
use Rattle.std.specs.Float.{binary32}
use Rattle.std.specs.Float.Ieee.{add, of_bits, to_bits}
use Rattle.refusal.specs.Refusal.{first_of}
use Rattle.limits.specs.Limits.{max_reading}
use Rattle.numeric.specs.Numeric.{in_range, all_in_range}
use Rattle.row_params.specs.Params.{all_up_to, rising, rising_from}
use Rattle.sort_digits.specs.Sorted.{up_to}
use Rattle.tof_scale.specs.declared.TofScale.{TofScale}
use Rattle.tof_scale.specs.Tof.{window_bins, sound_step, sound_ends, agreeing}
use Rattle.frames_index.specs.FrameIndex.{Index, climbs_from, climbs_to, frames_rise_from, frames_rise, sound_lists, seen_in}
use Rattle.frames_index.specs.IndexNumber.{index_number}
use Rattle.frames_sums.specs.Sums.{add_points, add_bins, add_frame, frame_sums}
use Rattle.frames_sums.specs.Steps.{index_of}
use Rattle.frames_sums.specs.Cases.{run}
use Rattle.frames_windows.specs.Windows.{padded_bins, bounds_window}
use Rattle.frames_traces.specs.Traces.{trace_of, sound_scans, row_asks, row_of, bounds_of, sound_axes, bounds_asks, window_by}

-- bins of four TOF values each from 4 on, as many as are told
abbrev scale : ℕ → TofScale
scale bins = record { tof_min = 4; tof_max = 44; tof_step = 4; num_bins = bins }

-- Around row 6 of the three frames of `run`, one bin on either side; with no bin on either side; and with reversed scans. By TOF bounds 28 to
-- 31, which are those of bin 6, likewise, and reversed.
pub traces :
    map (to_bits binary32) (trace_of run (padded_bins 6 6 1 10 20))
    ∷ map (to_bits binary32) (trace_of run (padded_bins 6 6 0 10 20))
    ∷ map (to_bits binary32) (trace_of run (padded_bins 6 6 1 20 10))
    ∷ map (to_bits binary32) (trace_of run (window_by (scale 11) (bounds_of 28 31 1 10 20)))
    ∷ map (to_bits binary32) (trace_of run (window_by (scale 11) (bounds_of 31 28 1 12 20)))
    ∷ []
    ≡ (0x4b80_0004 ∷ 0 ∷ 0x4b80_0001 ∷ [])
    ∷ (0 ∷ 0 ∷ 0 ∷ [])
    ∷ (0 ∷ 0 ∷ 0 ∷ [])
    ∷ (0x4b80_0004 ∷ 0 ∷ 0x4b80_0001 ∷ [])
    ∷ (0x4b80_0002 ∷ 0 ∷ 0x4b80_0000 ∷ [])
    ∷ []
unfolding frame_sums add_frame add_bins add_points up_to bounds_window window_bins add of_bits to_bits
traces = refl

abbrev by_row : ℕ → ℕ → ℕ → ℕ → ℕ → ℕ
by_row row pad s t room = index_number max_reading run (row_asks run (row_of row pad s t) room)

-- One that is accepted, with reversed scans; then a row past 4,194,303, a pad past 65,535, a scan past 65,535 on either side, and one place too
-- few.
pub row-numbers :
    by_row 4194303 65535 9 3 3 ∷ by_row 4194304 2 65536 3 3 ∷ by_row 7 65536 9 3 2 ∷ by_row 7 2 65536 3 2 ∷ by_row 7 2 3 65536 2 ∷ by_row 7 2 3 9 2 ∷ []
    ≡ 0 ∷ 4 ∷ 4 ∷ 5 ∷ 5 ∷ 20 ∷ []
unfolding index_number first_of seen_in sound_scans all_in_range in_range all_up_to sound_lists climbs_to climbs_from frames_rise frames_rise_from rising rising_from of_bits to_bits
row-numbers = refl

abbrev by_bounds : Index → ℕ → ℕ → ℕ → ℕ → ℕ → ℕ → ℕ
by_bounds ix bins a b pad t room = index_number max_reading ix (bounds_asks ix (scale bins) (bounds_of a b pad 3 t) room)

-- a frame with bin 5 twice
abbrev unsound : Index
unsound = index_of (0 ∷ 2 ∷ []) (5 ∷ 5 ∷ []) (0 ∷ 0 ∷ 0 ∷ []) [] []

-- One that is accepted, with reversed bounds; then a pad past 65,535, a TOF bound past 4,259,839 on either side, a scan past 65,535, one place
-- too few, a scale with another count of bins, and an index that is not sound, alone and with each of the others.
pub bounds-numbers :
    by_bounds run 11 4259839 28 65535 65535 3
    ∷ by_bounds run 12 4259840 28 65536 65536 2
    ∷ by_bounds run 12 4259840 28 1 9 2
    ∷ by_bounds run 12 28 4259840 1 9 2
    ∷ by_bounds run 12 28 31 1 65536 2
    ∷ by_bounds run 12 28 31 1 9 2
    ∷ by_bounds run 12 28 31 1 9 3
    ∷ by_bounds unsound 11 28 31 1 9 1
    ∷ by_bounds unsound 12 28 31 1 9 1
    ∷ []
    ≡ 0 ∷ 4 ∷ 5 ∷ 5 ∷ 5 ∷ 20 ∷ 22 ∷ 23 ∷ 22 ∷ []
unfolding index_number first_of seen_in sound_scans sound_axes sound_step sound_ends agreeing all_in_range in_range all_up_to sound_lists climbs_to climbs_from frames_rise frames_rise_from rising rising_from of_bits to_bits
bounds-numbers = refl
