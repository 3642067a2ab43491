-- Worked cases, by computation; they need not be read to know what is promised.
use Rattle.std.specs.Prelude.{◌≡◌, refl, Ok, List, [], ◌∷◌, map, ℕ, Float}
use Rattle.std.specs.Float.{binary32}
use Rattle.std.specs.Float.Ieee.{of_bits, to_bits, of_int, add, sub, mul, lt, le, to_unsigned}
use Rattle.refusal.specs.Refusal.{first_of}
use Rattle.refusal.specs.Answers.{Says, answer_by}
use Rattle.numeric.specs.Arith.{index_f, 𝟎}
use Rattle.numeric.specs.Numeric.{clamp_f, lerp_f, in_range, all_in_range}
use Rattle.row_area.specs.Area.{height_at, strip, head, whole, tail, across, between, area_f, area_number}
use Rattle.refusal.specs.Numbered.{says}

-- whole numbers as readings
abbrev row : List ℕ → List Float
row xs = map index_f xs

-- what the entry answers, and from one sample to another
abbrev entry : List Float → Float → Float → Says Float
entry y x0 x1 = answer_by (area_number y x0 x1) (area_f y x0 x1)

abbrev answer : List ℕ → ℕ → ℕ → Says Float
answer xs from to = entry (row xs) (index_f from) (index_f to)

-- fewer than two samples
short : answer (7 ∷ []) 0 1 ≡ says (Ok 𝟎)
unfolding area_number first_of all_in_range in_range area_f of_int to_bits
short = refl

-- a right end that is not right of the left one
turned : answer (1 ∷ 2 ∷ 4 ∷ 8 ∷ []) 2 1 ≡ says (Ok 𝟎)
unfolding area_number first_of all_in_range in_range area_f between clamp_f lt le of_int of_bits to_bits
turned = refl

-- the sum of two neighbours, 16,777,217, is rounded to even
rounded : answer (8388608 ∷ 8388609 ∷ 8388608 ∷ []) 0 2 ≡ says (Ok (index_f 8388608))
unfolding area_number first_of all_in_range in_range area_f between across head whole tail strip height_at clamp_f lerp_f add sub mul lt le of_int of_bits to_bits to_unsigned
rounded = refl

-- up to the last sample: the last segment is missing (0x4118_0000 is 9.5) ..
missing : answer (10 ∷ 9 ∷ 8 ∷ []) 0 2 ≡ says (Ok (of_bits binary32 0x4118_0000))
unfolding area_number first_of all_in_range in_range area_f between across head whole tail strip height_at clamp_f lerp_f add sub mul lt le of_int of_bits to_bits to_unsigned
missing = refl

missing-of-four : answer (1 ∷ 2 ∷ 4 ∷ 8 ∷ []) 1 3 ≡ says (Ok (index_f 3))
unfolding area_number first_of all_in_range in_range area_f between across head whole tail strip height_at clamp_f lerp_f add sub mul lt le of_int of_bits to_bits to_unsigned
missing-of-four = refl

-- .. unless the area begins in it
present : answer (1 ∷ 2 ∷ 4 ∷ 8 ∷ []) 2 3 ≡ says (Ok (index_f 6))
unfolding area_number first_of all_in_range in_range area_f between across head whole tail strip height_at clamp_f lerp_f add sub mul lt le of_int of_bits to_bits to_unsigned
present = refl

-- from 0.5 to 2.5: half of a segment, a whole one and half of the next, 1.5, 2 and 1
parts : entry (row (0 ∷ 4 ∷ 0 ∷ 8 ∷ [])) (of_bits binary32 0x3f00_0000) (of_bits binary32 0x4020_0000) ≡ says (Ok (of_bits binary32 0x4090_0000))
unfolding area_number first_of all_in_range in_range area_f between across head whole tail strip height_at clamp_f lerp_f add sub mul lt le of_int of_bits to_bits to_unsigned
parts = refl
