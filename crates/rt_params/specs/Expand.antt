-- The parameters of expansion along the retention time.
use Rattle.std.specs.Prelude.{Bool, ◌&&◌, ℕ, leb, Float}
use Rattle.std.specs.Float.{binary32}
use Rattle.std.specs.Float.Ieee.{of_bits}
use Rattle.limits.specs.Limits.{max_count, max_seconds}
use Rattle.numeric.specs.Arith.{½, 𝟏}
use Rattle.numeric.specs.Numeric.{in_range}
use Rattle.rt_params.specs.Modes.{default_mode, sound_mode}
use Rattle.rt_params.specs.declared.ThresholdMode.{ThresholdMode}
use Rattle.rt_params.specs.declared.ThresholdMode.TheVariants.{Fixed}
use Rattle.rt_params.specs.declared.RtExpandParams.{RtExpandParams}

-- the defaults: seconds 0.5, 1 and 0.5, the fraction 0.25
abbrev pub defaults : RtExpandParams
defaults =
    record {
      bin_pad = 2;
      smooth_sigma_sec = ½;
      min_prom = default_mode;
      min_sep_sec = 𝟏;
      min_width_sec = ½;
      fallback_if_frames_lt = 3;
      fallback_frac_width = of_bits binary32 0x3e80_0000;
      rt_pad_frames = 2;
    }

-- parameters with another threshold
abbrev pub with_mode : RtExpandParams → ThresholdMode → RtExpandParams
with_mode p m = record p { min_prom = m }

-- the defaults of old: a fixed threshold of 100
abbrev pub legacy_defaults : RtExpandParams
legacy_defaults = with_mode defaults (Fixed (of_bits binary32 0x42c8_0000))

-- ---- number 4: counts to 65,535, seconds from 0 to 2^20, the fraction from 0 to 1, the threshold as above

abbrev pub count : ℕ → Bool
count n = leb n max_count

abbrev pub seconds : Float → Bool
seconds x = in_range max_seconds x

-- the bit pattern of the highest fraction, 1
abbrev pub max_fraction : ℕ
max_fraction = 0x3f80_0000

abbrev pub is_fraction : Float → Bool
is_fraction x = in_range max_fraction x

unfoldable pub sound_expand : RtExpandParams → Bool
sound_expand p =
    count p.bin_pad && seconds p.smooth_sigma_sec && sound_mode p.min_prom
    && seconds p.min_sep_sec && seconds p.min_width_sec
    && count p.fallback_if_frames_lt && is_fraction p.fallback_frac_width && count p.rt_pad_frames
