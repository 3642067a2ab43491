-- What the C entry of the noise answers: 64 times its bit pattern, or the number.
use Rattle.std.specs.Prelude.{List, ℕ, Float}
use Rattle.std.specs.Float.{binary32}
use Rattle.std.specs.Float.Ieee.{to_bits}
use Rattle.refusal.specs.Answers.{answer_by}
use Rattle.rt_noise.specs.Noise.{noise_f, noise_number}
use Rattle.c_word.specs.Word.{word_of, Told}

abbrev pub pattern : Float → ℕ
pattern x = to_bits binary32 x

abbrev pub noise_word : List Float → ℕ
noise_word signal = word_of pattern (answer_by (noise_number signal) (noise_f signal))

-- the word tells the number and the pattern: `noise-told` in proofs/RtWords.antt
abbrev pub NoiseWordTold : Type 0
NoiseWordTold = (signal : List Float) → Told (noise_number signal) (pattern (noise_f signal)) (noise_word signal)
