-- Thresholds and parameters that are handed over as numbers.
use Rattle.std.specs.Prelude.{◌≡◌, false, cond, ℕ, ◌<◌, eqb, Float}
use Rattle.std.specs.Float.Ieee.{neg}
use Rattle.numeric.specs.Arith.{𝟏}
use Rattle.rt_params.specs.Expand.{sound_expand}
use Rattle.rt_params.specs.declared.ThresholdMode.{ThresholdMode}
use Rattle.rt_params.specs.declared.ThresholdMode.TheVariants.{Fixed, AdaptiveNoise}
use Rattle.rt_params.specs.declared.RtExpandParams.{RtExpandParams}

-- A threshold is the number of its kind and a float: 0 for a fixed value, 1 for a multiple of the noise. No other kind is known. One that
-- is handed in stands for a fixed value of -1, which number 4 refuses.
abbrev pub threshold_of : ℕ → Float → ThresholdMode
threshold_of kind v = cond (eqb kind 0) (Fixed v) (cond (eqb kind 1) (AdaptiveNoise v) (Fixed (neg 𝟏)))

-- the parameters of expansion, in the order of its fields, the threshold as its two
abbrev pub params_of : ℕ → Float → ℕ → Float → Float → Float → ℕ → Float → ℕ → RtExpandParams
params_of bins sigma kind prom sep width frames fraction pad =
    record {
      bin_pad = bins;
      smooth_sigma_sec = sigma;
      min_prom = threshold_of kind prom;
      min_sep_sec = sep;
      min_width_sec = width;
      fallback_if_frames_lt = frames;
      fallback_frac_width = fraction;
      rt_pad_frames = pad;
    }

-- parameters with an unknown kind of threshold are out of range, whatever else they are: `unknown-kind` in proofs/GivenLaws.antt
abbrev pub UnknownKind : Type 0
UnknownKind =
    (bins : ℕ) (sigma : Float) (kind : ℕ) (prom sep width : Float) (frames : ℕ) (fraction : Float) (pad : ℕ) → 1 < kind
    → sound_expand (params_of bins sigma kind prom sep width frames fraction pad) ≡ false
