-- The retention peaks of a trace as records, and which number of document 01 a call is answered with.
use Rattle.std.specs.Prelude.{◌≡◌, Bool, cond, not, ◌&&◌, List, [], ◌∷◌, ◌++◌, ℕ, ◌*◌, ltb, eqb, length, drop, Result, Float}
use Rattle.refusal.specs.Refusal.{Check, first_of}
use Rattle.refusal.specs.Answers.{answer_by}
use Rattle.refusal.specs.Numbered.{says}
use Rattle.refusal.specs.declared.Refusal.{Refusal}
use Rattle.limits.specs.Limits.{max_frames, max_height, max_reading, max_seconds}
use Rattle.numeric.specs.Numeric.{in_range, all_in_range}
use Rattle.row_params.specs.Params.{most_peaks}
use Rattle.rt_time.specs.Time.{never_falls}
use Rattle.rt_params.specs.Modes.{effective_f, sound_mode}
use Rattle.rt_params.specs.declared.ThresholdMode.{ThresholdMode}
use Rattle.rt_noise.specs.Noise.{noise_f}
use Rattle.rt_record.specs.RtRecord.{local_size, local_words}
use Rattle.rt_record.specs.declared.RtLocalPeak.{RtLocalPeak}
use Rattle.rt_search.specs.Retention.{rt_peaks}

-- the words of some peaks, one record after another
unfoldable pub peak_words : List RtLocalPeak → List ℕ
peak_words [] = []
peak_words (p ∷ ps) = local_words p ++ peak_words ps

-- what is asked of a search: the trace, smoothed and raw, its times, the threshold, the least separation and the least width
pub record RtCall : Type 0 where
  pub smoothed : List Float
  pub raw : List Float
  pub times : List Float
  pub threshold : ThresholdMode
  pub separation : Float
  pub width : Float

abbrev pub call_of : List Float → List Float → List Float → ThresholdMode → Float → Float → RtCall
call_of y z t mode sep min_width =
    record { smoothed = y; raw = z; times = t; threshold = mode; separation = sep; width = min_width }

-- the floor: the effective threshold at the noise of the smoothed trace
unfoldable pub floor_of : List Float → ThresholdMode → Float
floor_of y mode = effective_f mode (noise_f y)

-- the retention peaks of the trace
unfoldable pub peaks_of : RtCall → List RtLocalPeak
peaks_of c = rt_peaks (floor_of c.smoothed c.threshold) c.separation c.width c.smoothed c.raw c.times

-- ---- numbers

-- number 1: raw readings z and times t, one for each smoothed reading y
unfoldable pub same_lengths : List Float → List Float → List Float → Bool
same_lengths y z t = eqb (length z) (length y) && eqb (length t) (length y)

-- number 3: smoothed readings from 0 to 2^33, raw ones from 0 to 2^32
unfoldable pub sound_readings : List Float → List Float → Bool
sound_readings y z = all_in_range max_height y && all_in_range max_reading z

-- number 4: the threshold from 0 to 2^33; separation, width and times from 0 to 2^20 seconds
unfoldable pub sound_values : ThresholdMode → Float → Float → List Float → Bool
sound_values mode sep min_width t = sound_mode mode && in_range max_seconds sep && in_range max_seconds min_width && all_in_range max_seconds t

-- The checks of a call, the lowest number first. `room` and `scratch` are the lengths of the lent list and of the lent scratch.
abbrev pub rt_checks : RtCall → ℕ → ℕ → List Check
rt_checks c room scratch =
    let n = length c.smoothed in
    record { number = 1; applies = not (same_lengths c.smoothed c.raw c.times) }
    ∷ record { number = 2; applies = ltb max_frames n }
    ∷ record { number = 3; applies = not (sound_readings c.smoothed c.raw) }
    ∷ record { number = 4; applies = not (sound_values c.threshold c.separation c.width c.times) }
    ∷ record { number = 7; applies = not (never_falls c.times) }
    ∷ record { number = 20; applies = ltb room (most_peaks n * local_size) }
    ∷ record { number = 21; applies = ltb scratch n }
    ∷ []

unfoldable pub rt_number : RtCall → ℕ → ℕ → ℕ
rt_number c room scratch = first_of (rt_checks c room scratch)

-- ---- what is left of a call

-- the number for a lent list and a lent scratch
abbrev pub number_for : RtCall → List ℕ → List ℕ → ℕ
number_for c out scratch = rt_number c (length out) (length scratch)

-- Accepted, with number 0: the words of all peaks stand at the front of the list, which is as it was past them, and what the scratch
-- holds before the place n, the count of frames, is open. Refused: both are as they were.
pub record Answered (c : RtCall) (out₀ out scratch₀ scratch : List ℕ) (answer : Result ℕ Refusal) : Type 0 where
  pub answered : says answer ≡ answer_by (number_for c out₀ scratch₀) (length (peaks_of c))
  pub words : out ≡ cond (eqb (number_for c out₀ scratch₀) 0) (peak_words (peaks_of c) ++ drop (length (peaks_of c) * local_size) out₀) out₀
  pub length-kept : length scratch ≡ length scratch₀
  pub past : drop (cond (eqb (number_for c out₀ scratch₀) 0) (length c.smoothed) 0) scratch ≡ drop (cond (eqb (number_for c out₀ scratch₀) 0) (length c.smoothed) 0) scratch₀
