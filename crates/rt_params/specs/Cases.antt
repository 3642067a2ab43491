-- Worked cases, by computation; they need not be read to know what is promised.
use Rattle.std.specs.Prelude.{◌≡◌, refl, true, false}
use Rattle.std.specs.Float.{binary32}
use Rattle.std.specs.Float.Ieee.{of_bits, to_bits, of_int, mul, lt, is_nan}
use Rattle.numeric.specs.Arith.{index_f, 𝟎, ½, 𝟏}
use Rattle.numeric.specs.Numeric.{max_f, in_range}
use Rattle.rt_params.specs.Modes.{effective_f, sound_mode}
use Rattle.rt_params.specs.Expand.{defaults, legacy_defaults, with_mode, sound_expand}
use Rattle.rt_params.specs.declared.ThresholdMode.TheVariants.{Fixed, AdaptiveNoise}

-- case (i) of document 01: Fixed(2) at noise 1 is 3, at 0 it is 2
noisy : effective_f (Fixed (index_f 2)) 𝟏 ≡ index_f 3
unfolding effective_f max_f is_nan lt mul of_int of_bits
noisy = refl

quiet : effective_f (Fixed (index_f 2)) 𝟎 ≡ index_f 2
unfolding effective_f lt of_int of_bits
quiet = refl

-- a fixed value above 3 times the noise stays
high : effective_f (Fixed (index_f 4)) 𝟏 ≡ index_f 4
unfolding effective_f max_f is_nan lt mul of_int of_bits
high = refl

-- a multiple: of the noise, 0 for the multiple 0, and 1 without noise
multiple : effective_f (AdaptiveNoise (index_f 5)) ½ ≡ of_bits binary32 0x4020_0000
unfolding effective_f lt mul of_int of_bits
multiple = refl

none-of-it : effective_f (AdaptiveNoise 𝟎) 𝟏 ≡ 𝟎
unfolding effective_f lt mul of_bits
none-of-it = refl

no-noise : effective_f (AdaptiveNoise (index_f 5)) 𝟎 ≡ 𝟏
unfolding effective_f lt of_int of_bits
no-noise = refl

-- the defaults are in range; a threshold of minus zero is not, of either kind
sound-defaults : sound_expand defaults ≡ true
unfolding sound_expand sound_mode in_range of_bits to_bits
sound-defaults = refl

sound-legacy : sound_expand legacy_defaults ≡ true
unfolding sound_expand sound_mode in_range of_bits to_bits
sound-legacy = refl

minus-fixed : sound_expand (with_mode defaults (Fixed (of_bits binary32 0x8000_0000))) ≡ false
unfolding sound_expand sound_mode in_range of_bits to_bits
minus-fixed = refl

minus-adaptive : sound_expand (with_mode defaults (AdaptiveNoise (of_bits binary32 0x8000_0000))) ≡ false
unfolding sound_expand sound_mode in_range of_bits to_bits
minus-adaptive = refl
