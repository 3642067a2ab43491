-- The words of the noise and of the fallback.
use mathlib.Core.Path.{refl}
use mathlib.Core.List.{List}
use Prim.Native.Nat.{ℕ, ◌<◌, ◌≤◌, ◌^◌}
use native.Mathlib.Omega.{arith}
use Rattle.std.specs.Prelude.{Option, Some, None}
use lib.Ieee.{Float}
use Rattle.rt_noise.specs.Noise.{noise_f, noise_checks, noise_number}
use Rattle.rt_fallback.specs.FallbackNumber.{fallback_checks, fallback_number, fallback_peak, fallback_count, count_of}
use Rattle.refusal.specs.Answers.{answer_by}
use Rattle.rt_record.specs.declared.RtPeak1D.{RtPeak1D}
use Rattle.c_word.specs.Word.{word_of, itself}
use Rattle.c_word.proofs.Words.{below, first_below, word_fits, word-told}
use Rattle.c_rt.specs.Noise.{pattern, NoiseWordTold}
use Rattle.c_rt.specs.Fallback.{FallbackWordTold}

noise-small : (signal : List Float) → noise_number signal < 64
unfolding noise_number below
noise-small signal = first_below 64 (noise_checks signal) refl

pub noise-told : NoiseWordTold
noise-told signal = word-told pattern (noise_number signal) (noise_f signal) (noise-small signal)

fallback-small : (trace : List Float) (ids : List ℕ) (times : List Float) (peak : List ℕ) (frac : Float) (room : ℕ) → fallback_number trace ids times peak frac room < 64
unfolding fallback_number below
fallback-small trace ids times peak frac room = first_below 64 (fallback_checks trace ids times peak frac room) refl

-- one peak at most, so that the word fits
pub fallback-fits : (trace : List Float) (ids : List ℕ) (times : List Float) (peak : List ℕ) (frac : Float) (first room : ℕ)
    → word_of itself (answer_by (fallback_number trace ids times peak frac room) (fallback_count trace ids times peak frac first)) < 2 ^ 64
fallback-fits trace ids times peak frac first room =
    let f = fallback_peak trace ids times peak frac first in
    word_fits itself (fallback_number trace ids times peak frac room) (count_of f) (fallback-small trace ids times peak frac room) (λ z. omega (arith, count-few f))
  where
    count-few : (f : Option RtPeak1D) → count_of f ≤ 1
    count-few (Some p) = omega arith
    count-few None = omega arith

pub fallback-told : FallbackWordTold
fallback-told trace ids times peak frac first room =
    word-told itself (fallback_number trace ids times peak frac room) (fallback_count trace ids times peak frac first) (fallback-small trace ids times peak frac room)
