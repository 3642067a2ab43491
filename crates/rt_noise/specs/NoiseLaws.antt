-- What the number of a noise says, and what noise and time step are in the order of floats.
use Rattle.std.specs.Prelude.{◌≡◌, true, List, ◌/◌, ◌≤◌, ◌<◌, length, Float}
use Rattle.refusal.specs.Refusal.{Lowest}
use Rattle.limits.specs.Limits.{max_seconds}
use Rattle.numeric.specs.Arith.{◌⊗◌}
use Rattle.numeric.specs.Numeric.{max_f, all_in_range}
use Rattle.numeric.specs.Plain.{AllFit}
use Rattle.sort_rank.specs.Rank.{AtRankF, distances, steps}
use Rattle.rt_noise.specs.Noise.{to_sigma, noise_f, shortest, dt_f, noise_checks, noise_number}

-- it is the lowest that applies: `number-lowest` in proofs/NoiseLaws.antt
abbrev pub NoiseLowest : Type 0
NoiseLowest = (xs : List Float) → 0 < noise_number xs → Lowest (noise_checks xs) (noise_number xs)

-- v is the middle one of xs: half of them, rounded down, at most are smaller, and more than that are smaller or equal
abbrev pub Middle : List Float → Float → Type 0
Middle xs v = AtRankF xs (length xs / 2) v

-- The noise of an accepted trace of three samples or more. Readings of a slice fit.
pub record NoiseOf (xs : List Float) (r : Float) : Type 0 where
  pub median : Float
  pub is-median : Middle xs median
  pub deviation : Float
  pub is-deviation : Middle (distances median xs) deviation
  pub scaled : r ≡ deviation ⊗ to_sigma

-- it is that of `noise_f`: `noise-is`
abbrev pub NoiseIs : Type 0
NoiseIs = (xs : List Float) → AllFit xs → noise_number xs ≡ 0 → 3 ≤ length xs → NoiseOf xs (noise_f xs)

-- The time step of a time axis of two times or more, each from 0 to 2^20 seconds.
pub record StepOf (times : List Float) (r : Float) : Type 0 where
  pub step : Float
  pub is-step : Middle (steps times) step
  pub held : r ≡ max_f step shortest

-- it is that of `dt_f`: `step_is`
abbrev pub StepIs : Type 0
StepIs = (times : List Float) → AllFit times → all_in_range max_seconds times ≡ true → 2 ≤ length times → StepOf times (dt_f times)
