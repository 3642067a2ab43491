-- Worked cases, each by computation; they need not be read to know what is promised.
use Rattle.std.specs.Prelude.{◌≡◌, refl, List, [], ◌∷◌, ◌++◌, map, ℕ}
use Rattle.std.specs.Float.{binary32}
use Rattle.std.specs.Float.Ieee.{add, le, of_bits, to_bits}
use Rattle.refusal.specs.Refusal.{first_of}
use Rattle.limits.specs.Limits.{max_reading}
use Rattle.numeric.specs.Numeric.{in_range, all_in_range}
use Rattle.row_params.specs.Params.{all_up_to, rising, rising_from}
use Rattle.sort_digits.specs.Sorted.{up_to}
use Rattle.row_record.specs.Record.{peak_from, sound_tof, sound_frames, sound_options, sound_scans, sound_shape, sound, all_sound}
use Rattle.tof_scale.specs.declared.TofScale.{TofScale}
use Rattle.tof_scale.specs.Tof.{window_bins, sound_step, sound_ends, agreeing}
use Rattle.frames_index.specs.FrameIndex.{climbs_from, climbs_to, frames_rise_from, frames_rise, sound_lists, seen_in}
use Rattle.frames_index.specs.IndexNumber.{index_number}
use Rattle.frames_sums.specs.Sums.{add_points, add_bins, add_frame, frame_sums}
use Rattle.frames_sums.specs.Cases.{run}
use Rattle.frames_windows.specs.Windows.{bounds_window}
use Rattle.frames_many_traces.specs.ManyTraces.{traces_of, call_of, many_number}

-- bins of four TOF values each from 4 on, as many as are told
abbrev scale : ℕ → TofScale
scale bins = record { tof_min = 4; tof_max = 44; tof_step = 4; num_bins = bins }

-- the record of a peak with TOF bounds a and b, in samples 3 to 5, absolute scans s to t
abbrev words : ℕ → ℕ → ℕ → ℕ → List ℕ
words a b s t = 9 ∷ 0 ∷ a ∷ b ∷ 0 ∷ 0 ∷ 0 ∷ 0 ∷ 0 ∷ 0 ∷ 4 ∷ 3 ∷ 5 ∷ 0 ∷ s ∷ t ∷ 0 ∷ 0 ∷ 0 ∷ 0 ∷ 0 ∷ 0 ∷ 0 ∷ 0 ∷ 0 ∷ 0 ∷ 0 ∷ []

-- a peak at bin 6 and one at bin 5
abbrev two : List ℕ
two = words 28 31 10 20 ++ words 24 27 20 20

-- Over the three frames of `run`, with one bin on either side, and with none.
pub traces :
    map (to_bits binary32) (traces_of run (scale 11) 1 two 2) ∷ map (to_bits binary32) (traces_of run (scale 11) 0 two 2) ∷ []
    ≡ (0x4b80_0004 ∷ 0 ∷ 0x4b80_0001 ∷ 0x4080_0000 ∷ 0 ∷ 0 ∷ []) ∷ (0 ∷ 0 ∷ 0 ∷ 0x4080_0000 ∷ 0 ∷ 0 ∷ []) ∷ []
unfolding traces_of peak_from frame_sums add_frame add_bins add_points up_to bounds_window window_bins add of_bits to_bits
traces = refl

abbrev number : List ℕ → ℕ → ℕ → ℕ → ℕ → ℕ
number list bins pad out windows = many_number max_reading (call_of run (scale bins) list pad) (record { out = out; windows = windows })

-- One that is accepted; then a word too many, a pad past 65,535, a TOF bound above its other, one place too few, one word of scratch too few,
-- and a scale with another count of bins.
pub numbers :
    number two 11 65535 6 8
    ∷ number (7 ∷ two) 12 65536 5 7
    ∷ number two 12 65536 5 7
    ∷ number (words 28 31 10 20 ++ words 27 24 20 20) 12 1 5 7
    ∷ number two 12 1 5 7
    ∷ number two 12 1 6 7
    ∷ number two 12 1 6 8
    ∷ []
    ≡ 0 ∷ 1 ∷ 4 ∷ 9 ∷ 20 ∷ 21 ∷ 22 ∷ []
unfolding index_number first_of seen_in all_sound sound sound_tof sound_frames sound_options sound_scans sound_shape peak_from sound_step sound_ends agreeing all_in_range in_range all_up_to sound_lists climbs_to climbs_from frames_rise frames_rise_from rising rising_from le of_bits to_bits
numbers = refl
