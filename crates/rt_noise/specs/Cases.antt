-- Worked cases, by computation; they need not be read to know what is promised.
use Rattle.std.specs.Prelude.{◌≡◌, refl, List, [], ◌∷◌, map, ℕ, Float, Ok}
use Rattle.std.specs.Float.{binary32}
use Rattle.std.specs.Float.Ieee.{of_bits, to_bits, of_int, add, sub, neg, mul, lt, is_nan}
use Rattle.refusal.specs.Refusal.{first_of}
use Rattle.refusal.specs.Answers.{Says, answer_by}
use Rattle.refusal.specs.Numbered.{says}
use Rattle.numeric.specs.Arith.{𝟎, 𝟏, index_f}
use Rattle.numeric.specs.Numeric.{max_f, abs_f, in_range, all_in_range}
use Rattle.sort_rank.specs.Rank.{counted, first_at, ranked, rank_f, distances, steps_from, steps}
use Rattle.rt_noise.specs.Noise.{middle, to_sigma, noise_f, shortest, dt_f, noise_number}

-- whole numbers as readings
abbrev row : List ℕ → List Float
row xs = map index_f xs

-- what the entry answers
abbrev entry : List Float → Says Float
entry xs = answer_by (noise_number xs) (noise_f xs)

-- case (k) of document 01: of 1 2 4 9 the middle is 4, of the distances 3 2 0 5 it is 3
case-k : middle (row (1 ∷ 2 ∷ 4 ∷ 9 ∷ [])) ≡ index_f 4
unfolding counted first_at ranked rank_f middle of_int to_bits of_bits
case-k = refl

case-k-distance : middle (distances (index_f 4) (row (1 ∷ 2 ∷ 4 ∷ 9 ∷ []))) ≡ index_f 3
unfolding counted first_at ranked rank_f middle abs_f sub add neg of_int to_bits of_bits
case-k-distance = refl

-- 0x408e_5460 is 4.4478
case-k-noise : entry (row (1 ∷ 2 ∷ 4 ∷ 9 ∷ [])) ≡ says (Ok (of_bits binary32 0x408e_5460))
unfolding noise_number first_of all_in_range in_range counted first_at ranked rank_f middle noise_f abs_f sub add neg mul of_int to_bits of_bits
case-k-noise = refl

-- an odd count, in no order: the middle is 4, the distances are 5, 3, 96, 2, 0
odd-count : entry (row (9 ∷ 1 ∷ 100 ∷ 2 ∷ 4 ∷ [])) ≡ says (Ok (of_bits binary32 0x408e_5460))
unfolding noise_number first_of all_in_range in_range counted first_at ranked rank_f middle noise_f abs_f sub add neg mul of_int to_bits of_bits
odd-count = refl

-- more than half of the readings are equal
repeated : entry (row (7 ∷ 7 ∷ 2 ∷ 7 ∷ [])) ≡ says (Ok 𝟎)
unfolding noise_number first_of all_in_range in_range counted first_at ranked rank_f middle noise_f abs_f sub add neg mul of_int to_bits of_bits
repeated = refl

-- two samples have no noise, three have
two : entry (row (1 ∷ 9 ∷ [])) ≡ says (Ok 𝟎)
unfolding noise_number first_of all_in_range in_range noise_f of_int to_bits
two = refl

three : entry (row (1 ∷ 9 ∷ 2 ∷ [])) ≡ says (Ok to_sigma)
unfolding noise_number first_of all_in_range in_range counted first_at ranked rank_f middle noise_f abs_f sub add neg mul of_int to_bits of_bits
three = refl

-- minus zero is out of range, 2^33 is not
minus-zero : noise_number (of_bits binary32 0x8000_0000 ∷ []) ≡ 3
unfolding noise_number first_of all_in_range in_range to_bits of_bits
minus-zero = refl

highest : noise_number (of_bits binary32 0x5000_0000 ∷ []) ≡ 0
unfolding noise_number first_of all_in_range in_range to_bits of_bits
highest = refl

-- unequal time steps, forth and back: 4, 1, 2, 2, 8; of five the middle is 2, of the first four too, of two the longer
dt-odd : dt_f (row (0 ∷ 4 ∷ 5 ∷ 3 ∷ 5 ∷ 13 ∷ [])) ≡ index_f 2
unfolding counted first_at ranked rank_f middle steps_from steps dt_f max_f lt is_nan abs_f sub add neg of_int to_bits of_bits
dt-odd = refl

dt-two : dt_f (row (0 ∷ 4 ∷ 5 ∷ [])) ≡ index_f 4
unfolding counted first_at ranked rank_f middle steps_from steps dt_f max_f lt is_nan abs_f sub add neg of_int to_bits of_bits
dt-two = refl

-- equal times, and one time
dt-none : dt_f (row (6 ∷ 6 ∷ 6 ∷ [])) ≡ shortest
unfolding counted first_at ranked rank_f middle steps_from steps dt_f max_f lt is_nan abs_f sub add neg of_int to_bits of_bits
dt-none = refl

dt-one : dt_f (row (6 ∷ [])) ≡ 𝟏
unfolding dt_f
dt-one = refl
