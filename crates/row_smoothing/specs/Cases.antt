-- Worked cases, by computation; they need not be read to know what is promised.
use Rattle.std.specs.Prelude.{◌≡◌, refl, List, [], ◌∷◌, map, ℕ, Float}
use Rattle.std.specs.Float.{binary32}
use Rattle.std.specs.Float.Ieee.{of_bits, to_bits, of_int, add, mul, div, lt}
use Rattle.numeric.specs.Arith.{index_f, ½, 𝟏}
use Rattle.numeric.specs.Numeric.{in_range, all_in_range}
use Rattle.refusal.specs.Refusal.{first_of}
use Rattle.row_smoothing.specs.Smoothing.{tabulate, sum_from, normalised, weighted, met, smoothed_at, smoothed, sound_weights, smooth_number}

-- whole numbers as readings
abbrev row : List ℕ → List Float
row xs = map index_f xs

-- one weight leaves the row as it is
alone : smoothed (𝟏 ∷ []) (row (5 ∷ 0 ∷ 7 ∷ [])) ≡ row (5 ∷ 0 ∷ 7 ∷ [])
unfolding smoothed normalised sum_from tabulate smoothed_at weighted met add mul div lt of_int of_bits
alone = refl

-- at an end, the mean is by the two weights that meet a reading
ends : smoothed (½ ∷ 𝟏 ∷ ½ ∷ []) (row (3 ∷ 6 ∷ 9 ∷ [])) ≡ row (4 ∷ 6 ∷ 8 ∷ [])
unfolding smoothed normalised sum_from tabulate smoothed_at weighted met add mul div lt of_int of_bits
ends = refl

-- with 0.294 beside 1, a constant row of 7 has 7.0000005 in its middle
constant : map (to_bits binary32) (smoothed (of_bits binary32 0x3e96_872b ∷ 𝟏 ∷ of_bits binary32 0x3e96_872b ∷ []) (row (7 ∷ 7 ∷ 7 ∷ [])))
    ≡ (0x40e0_0000 ∷ 0x40e0_0001 ∷ 0x40e0_0000 ∷ [])
unfolding smoothed normalised sum_from tabulate smoothed_at weighted met add mul div lt of_int of_bits to_bits
constant = refl

-- a reading out of range goes before weights that are even in number, and those before a short scratch
three : smooth_number (of_bits binary32 0xbf80_0000 ∷ []) (𝟏 ∷ 𝟏 ∷ []) 0 ≡ 3
unfolding smooth_number first_of all_in_range in_range of_bits to_bits
three = refl

six : smooth_number (𝟏 ∷ []) (𝟏 ∷ 𝟏 ∷ []) 0 ≡ 6
unfolding smooth_number first_of sound_weights all_in_range in_range of_bits to_bits
six = refl

twenty-one : smooth_number (𝟏 ∷ []) (𝟏 ∷ []) 0 ≡ 21
unfolding smooth_number first_of sound_weights all_in_range in_range of_bits to_bits
twenty-one = refl
