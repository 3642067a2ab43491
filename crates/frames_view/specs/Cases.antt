-- Worked cases, each by computation; they need not be read to know what is promised.
use Rattle.std.specs.Prelude.{◌≡◌, refl, [], ◌∷◌, ℕ, ◌+◌, Float}
use Rattle.std.specs.Float.{binary32}
use Rattle.std.specs.Float.Ieee.{of_bits, to_bits}
use Rattle.refusal.specs.Refusal.{first_of}
use Rattle.limits.specs.Limits.{max_reading}
use Rattle.numeric.specs.Numeric.{in_range, all_in_range}
use Rattle.row_params.specs.Params.{all_up_to}
use Rattle.tof_scale.specs.Tof.{sound_step, sound_ends, agreeing}
use Rattle.tof_scale.specs.declared.TofScale.{TofScale}
use Rattle.frames_view.specs.declared.numbers.Room.{Room}
use Rattle.frames_view.specs.Answer.{Frame, frame_of, view_number}

-- bins of four TOF values each from 4 on, the last one 12 alone
abbrev scale : ℕ → TofScale
scale bins = record { tof_min = 4; tof_max = 12; tof_step = 4; num_bins = bins }

-- two points, the second of which has no bin, with 65,535 scans
abbrev two : ℕ → ℕ → Float → ℕ → Frame
two bins scan reading base = frame_of (9 ∷ 13 ∷ []) (7 ∷ scan ∷ []) (of_bits binary32 0x3f80_0000 ∷ reading ∷ []) (scale bins) 65535 base

-- 2^32, and the next float
abbrev highest : Float
highest = of_bits binary32 0x4f80_0000

abbrev above : Float
above = of_bits binary32 0x4f80_0001

-- room for n points and for n bins with the end behind them
abbrev room : ℕ → ℕ → Room
room n more = record { bins = n; offsets = n + more; scans = n; readings = n; keys = n; order = n; spare = n }

fits : view_number max_reading (two 3 65535 highest 16777214) (room 2 1) ≡ 0
unfolding view_number first_of all_in_range in_range all_up_to sound_step sound_ends agreeing of_bits to_bits
fits = refl

-- one point more than an index may have
too_many : view_number max_reading (two 3 65535 highest 16777215) (room 2 1) ≡ 2
unfolding view_number first_of all_in_range in_range all_up_to sound_step sound_ends agreeing of_bits to_bits
too_many = refl

-- a reading, and a scan, of the point that has no bin
reading-dropped : view_number max_reading (two 3 65536 above 0) (room 2 1) ≡ 3
unfolding view_number first_of all_in_range in_range all_up_to sound_step sound_ends agreeing of_bits to_bits
reading-dropped = refl

scan-dropped : view_number max_reading (two 4 65536 highest 0) (room 1 1) ≡ 5
unfolding view_number first_of all_in_range in_range all_up_to sound_step sound_ends agreeing of_bits to_bits
scan-dropped = refl

-- no room for the end behind the starts
no_end : view_number max_reading (two 4 65535 highest 0) (room 2 0) ≡ 20
unfolding view_number first_of all_in_range in_range all_up_to sound_step sound_ends agreeing of_bits to_bits
no_end = refl

disagreeing : view_number max_reading (two 4 65535 highest 0) (room 2 1) ≡ 22
unfolding view_number first_of all_in_range in_range all_up_to sound_step sound_ends agreeing of_bits to_bits
disagreeing = refl
