-- The noise of a trace, and its time step. The middle one of n elements is the one at rank n / 2, rounded down.
use Rattle.std.specs.Prelude.{cond, not, List, [], ◌∷◌, ℕ, ◌/◌, ltb, length, Float}
use Rattle.std.specs.Float.{binary32}
use Rattle.std.specs.Float.Ieee.{of_bits}
use Rattle.refusal.specs.Refusal.{Check, first_of}
use Rattle.limits.specs.Limits.{max_samples, max_height}
use Rattle.numeric.specs.Arith.{◌⊗◌, 𝟎, 𝟏}
use Rattle.numeric.specs.Numeric.{max_f, all_in_range}
use Rattle.sort_rank.specs.Rank.{rank_f, distances, steps}

-- the middle one
unfoldable pub middle : List Float → Float
middle xs = rank_f xs (length xs / 2)

-- 1.4826: times the middle distance from the middle it estimates the standard deviation
abbrev pub to_sigma : Float
to_sigma = of_bits binary32 0x3fbd_c5d6

-- the noise: the middle distance of the readings from the middle one, scaled; fewer than three samples have none
unfoldable pub noise_f : List Float → Float
noise_f xs = cond (ltb (length xs) 3) 𝟎 (middle (distances (middle xs) xs) ⊗ to_sigma)

-- the shortest time step, 0.001 s
abbrev pub shortest : Float
shortest = of_bits binary32 0x3a83_126f

-- the middle step of a time axis, held to the shortest; fewer than two times have none, and 1 stands for it
unfoldable pub dt_f : List Float → Float
dt_f times = cond (ltb (length times) 2) 𝟏 (max_f (middle (steps times)) shortest)

-- ---- the entry

-- its checks: 2: more than 16,384 samples; 3: a reading not from 0 to 2^33
abbrev pub noise_checks : List Float → List Check
noise_checks xs =
    record { number = 2; applies = ltb max_samples (length xs) }
    ∷ record { number = 3; applies = not (all_in_range max_height xs) }
    ∷ []

unfoldable pub noise_number : List Float → ℕ
noise_number xs = first_of (noise_checks xs)
