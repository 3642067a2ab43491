-- The limits beside the numbers that document 01 names, each by computation; they need not be read to know what is promised.
use Rattle.std.specs.Prelude.{◌≡◌, refl, false, [], ◌∷◌, ℕ, ◌+◌, ◌^◌, pos, negsuc}
use Rattle.std.specs.Float.{inf, fin, binary32}
use Rattle.std.specs.Float.Ieee.{to_bits, of_int, round}
use Rattle.limits.specs.Limits.{max_reading, max_height, max_area, max_seconds, max_mobility, max_weight, max_place, max_bin_place, max_offset, any_number}
use Rattle.limits.specs.Limits.{max_tof, max_tof_bound, max_step, last_sample, last_frame, last_row, max_samples, max_frames, max_rows}

-- the bit pattern of a whole number
abbrev pattern : ℕ → ℕ
pattern n = to_bits binary32 (of_int binary32 (pos n))

pub whole-ones :
    max_reading ∷ max_height ∷ max_area ∷ max_seconds ∷ max_mobility ∷ max_weight ∷ max_place ∷ max_bin_place ∷ []
    ≡ pattern (2 ^ 32) ∷ pattern (2 ^ 33) ∷ pattern (2 ^ 50) ∷ pattern (2 ^ 20) ∷ pattern (2 ^ 20) ∷ pattern 1 ∷ pattern 65535 ∷ pattern 4194304 ∷ []
unfolding to_bits of_int round
whole-ones = refl

-- a half, and what every number is below
pub other-ones : max_offset ∷ any_number ∷ [] ≡ to_bits binary32 (fin false 1 (negsuc 0)) ∷ to_bits binary32 (inf false) ∷ []
unfolding to_bits
other-ones = refl

-- the last place is one below the size; a TOF value is the place of a row; a bound lies up to a step above a TOF value
pub places : max_samples ∷ max_frames ∷ max_rows ∷ last_row ∷ max_tof_bound ∷ [] ≡ (last_sample + 1) ∷ (last_frame + 1) ∷ (last_row + 1) ∷ max_tof ∷ (max_tof + max_step) ∷ []
places = refl
