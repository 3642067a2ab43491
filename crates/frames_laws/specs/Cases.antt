-- A worked case, by computation; it need not be read to know what is promised.
use Rattle.std.specs.Prelude.{◌≡◌, refl, [], ◌∷◌, ℕ, Float}
use Rattle.std.specs.Float.{binary32}
use Rattle.std.specs.Float.Ieee.{of_bits, to_bits}
use Rattle.refusal.specs.Refusal.{first_of}
use Rattle.limits.specs.Limits.{max_reading}
use Rattle.numeric.specs.Numeric.{in_range, all_in_range}
use Rattle.row_params.specs.Params.{all_up_to}
use Rattle.tof_scale.specs.Tof.{sound_step, sound_ends, agreeing}
use Rattle.tof_scale.specs.declared.TofScale.{TofScale}
use Rattle.sort_digits.specs.Sorted.{lex_lt, inserted, sorted_by, up_to}
use Rattle.frames_bins.specs.FrameBins.{bin_or_none, point_bins, kept_to, places_of, distinct_to, firsts_to, view_bins, view_offsets, view_scans, view_readings}
use Rattle.frames_view.specs.declared.numbers.Room.{Room}
use Rattle.frames_view.specs.Answer.{Frame, frame_of, view_number}
use Rattle.frames_laws.specs.BuiltIndex.{no_frames, with_frames, Run}

-- bins of four TOF values each from 4 on, the last one 12 alone
abbrev scale : TofScale
scale = record { tof_min = 4; tof_max = 12; tof_step = 4; num_bins = 3 }

-- the floats with these patterns are 1, 2, 4, and so on
abbrev float : ℕ → Float
float b = of_bits binary32 b

-- four points, of which one has no bin and one a scan past the last of 20
abbrev first : Frame
first = frame_of (9 ∷ 5 ∷ 13 ∷ 8 ∷ []) (10 ∷ 19 ∷ 12 ∷ 20 ∷ []) (float 0x3f80_0000 ∷ float 0x4000_0000 ∷ float 0x4080_0000 ∷ float 0x4100_0000 ∷ []) scale 20 0

-- three points behind the three that the first has in the index
abbrev second : Frame
second = frame_of (12 ∷ 4 ∷ 12 ∷ []) (3 ∷ 21 ∷ 5 ∷ []) (float 0x4180_0000 ∷ float 0x4200_0000 ∷ float 0x4280_0000 ∷ []) scale 20 3

abbrev room : Room
room = record { bins = 4; offsets = 5; scans = 4; readings = 4; keys = 4; order = 4; spare = 4 }

-- the two are a run, and this is its index
pub two-frames : Run max_reading no_frames (first ∷ second ∷ [])
unfolding view_number first_of all_in_range in_range all_up_to sound_step sound_ends agreeing view_scans places_of kept_to point_bins bin_or_none sorted_by inserted lex_lt up_to of_bits to_bits
two-frames = (record { room = room; base = refl; none = refl }, (record { room = room; base = refl; none = refl }, tt))

pub joined :
    with_frames no_frames (first ∷ second ∷ [])
    ≡ record {
      starts = 0 ∷ 2 ∷ 4 ∷ [];
      bins = 0 ∷ 1 ∷ 0 ∷ 2 ∷ [];
      offsets = 0 ∷ 1 ∷ 3 ∷ 4 ∷ 6 ∷ [];
      scans = 19 ∷ 10 ∷ 19 ∷ 19 ∷ 3 ∷ 5 ∷ [];
      readings = float 0x4000_0000 ∷ float 0x3f80_0000 ∷ float 0x4100_0000 ∷ float 0x4200_0000 ∷ float 0x4180_0000 ∷ float 0x4280_0000 ∷ [];
    }
unfolding with_frames view_bins view_offsets view_scans view_readings distinct_to firsts_to places_of kept_to point_bins bin_or_none sorted_by inserted lex_lt up_to
joined = refl
