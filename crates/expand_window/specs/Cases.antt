-- Worked cases, by computation; they need not be read to know what is promised.
use Rattle.std.specs.Prelude.{◌≡◌, refl, List, [], ◌∷◌, Float}
use Rattle.std.specs.Float.{binary32}
use Rattle.std.specs.Float.Ieee.{of_bits, to_bits, of_int, add, sub, neg, div, lt, is_nan}
use Rattle.numeric.specs.Arith.{½, 𝟐, index_f}
use Rattle.numeric.specs.Numeric.{max_f, abs_f}
use Rattle.sort_rank.specs.Rank.{counted, first_at, ranked, rank_f, steps_from, steps}
use Rattle.rt_noise.specs.Noise.{middle, dt_f}
use Rattle.expand_window.specs.Window.{least_sigma, sigma_over}

-- times 0, 1/4, 1/2, 4 and 8 s
abbrev times : List Float
times = of_bits binary32 0 ∷ of_bits binary32 0x3e80_0000 ∷ ½ ∷ index_f 4 ∷ index_f 8 ∷ []

-- Over the first three frames the step is 1/4 s, and half a second is 2 frames; over the last three it is 4 s (of two the longer), and the
-- least sigma holds. One frame counts as 1 s.
early : sigma_over ½ times 0 2 ≡ 𝟐
unfolding sigma_over dt_f middle counted first_at ranked rank_f steps_from steps max_f abs_f lt is_nan add sub neg div of_int of_bits to_bits
early = refl

late : sigma_over ½ times 2 4 ≡ least_sigma
unfolding sigma_over dt_f middle counted first_at ranked rank_f steps_from steps max_f abs_f lt is_nan add sub neg div of_int of_bits to_bits
late = refl

one : sigma_over 𝟐 times 1 1 ≡ 𝟐
unfolding sigma_over dt_f max_f lt is_nan div of_bits
one = refl
