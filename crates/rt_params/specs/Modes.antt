-- Thresholds: the floor for the heights and the prominences of a retention trace.
use Rattle.std.specs.Prelude.{Bool, cond, Float}
use Rattle.std.specs.Float.{binary32}
use Rattle.std.specs.Float.Ieee.{lt, of_bits}
use Rattle.limits.specs.Limits.{max_height}
use Rattle.numeric.specs.Arith.{◌⊗◌, 𝟎, 𝟏}
use Rattle.numeric.specs.Numeric.{max_f, in_range}
use Rattle.rt_params.specs.declared.ThresholdMode.{ThresholdMode}
use Rattle.rt_params.specs.declared.ThresholdMode.TheVariants.{Fixed, AdaptiveNoise}

-- the literal 3
abbrev pub 𝟑 : Float
𝟑 = of_bits binary32 0x4040_0000

-- The effective threshold of a trace with a noise. A fixed value is raised to 3 times a positive noise; a multiple of the noise
-- is 1 where there is no noise.
unfoldable pub effective_f : ThresholdMode → Float → Float
effective_f (Fixed v) noise = cond (lt 𝟎 noise) (max_f v (𝟑 ⊗ noise)) v
effective_f (AdaptiveNoise s) noise = cond (lt 𝟎 noise) (s ⊗ noise) 𝟏

-- the default: 3 times the noise
abbrev pub default_mode : ThresholdMode
default_mode = AdaptiveNoise 𝟑

-- number 4: a threshold's value or multiple from 0 to 2^33
unfoldable pub sound_mode : ThresholdMode → Bool
sound_mode (Fixed v) = in_range max_height v
sound_mode (AdaptiveNoise s) = in_range max_height s
