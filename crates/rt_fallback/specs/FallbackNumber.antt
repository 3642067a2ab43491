-- Which number of document 01 a trace is answered with, 0 for none, and with how many peaks.
use Rattle.std.specs.Prelude.{Bool, cond, not, ◌&&◌, List, [], ◌∷◌, ◌++◌, ℕ, leb, ltb, eqb, length, drop, Option, Some, None, Float}
use Rattle.refusal.specs.Refusal.{Check, first_of}
use Rattle.limits.specs.Limits.{max_reading, max_seconds, max_frames}
use Rattle.numeric.specs.Numeric.{all_in_range}
use Rattle.row_record.specs.Record.{size, peak_at, sound}
use Rattle.row_params.specs.Params.{rising}
use Rattle.rt_time.specs.Time.{never_falls}
use Rattle.rt_params.specs.Expand.{is_fraction}
use Rattle.rt_record.specs.RtRecord.{rt_size, rt_words}
use Rattle.rt_record.specs.declared.RtPeak1D.{RtPeak1D}
use Rattle.rt_fallback.specs.Fallback.{fallback_of}

-- ---- the number

-- number 1: one record of a mobility peak, and a time for each reading of the trace
unfoldable pub fallback_lengths : List Float → List Float → List ℕ → Bool
fallback_lengths trace times peak = eqb (length peak) size && leb (length trace) (length times)

-- number 2: 16,384 frames in the trace and on either axis
unfoldable pub fallback_sizes : List Float → List ℕ → List Float → Bool
fallback_sizes trace ids times = leb (length trace) max_frames && leb (length ids) max_frames && leb (length times) max_frames

-- number 4: the fraction from 0 to 1, times from 0 to 2^20; a first identity is never too high for one peak
unfoldable pub fallback_values : List Float → Float → Bool
fallback_values times frac = is_fraction frac && all_in_range max_seconds times

-- number 7: frame numbers that rise strictly, times that do not fall
unfoldable pub fallback_axes : List ℕ → List Float → Bool
fallback_axes ids times = rising ids && never_falls times

-- the checks of a trace, and the number that they give; 3: a reading not from 0 to 2^32; 9: an unsound record; `room` is the length
-- of the lent list
abbrev pub fallback_checks : List Float → List ℕ → List Float → List ℕ → Float → ℕ → List Check
fallback_checks trace ids times peak frac room =
    record { number = 1; applies = not (fallback_lengths trace times peak) }
    ∷ record { number = 2; applies = not (fallback_sizes trace ids times) }
    ∷ record { number = 3; applies = not (all_in_range max_reading trace) }
    ∷ record { number = 4; applies = not (fallback_values times frac) }
    ∷ record { number = 7; applies = not (fallback_axes ids times) }
    ∷ record { number = 9; applies = not (sound (peak_at peak 0)) }
    ∷ record { number = 20; applies = ltb room rt_size }
    ∷ []

unfoldable pub fallback_number : List Float → List ℕ → List Float → List ℕ → Float → ℕ → ℕ
fallback_number trace ids times peak frac room = first_of (fallback_checks trace ids times peak frac room)

-- ---- the answer

abbrev pub count_of : Option RtPeak1D → ℕ
count_of (Some p) = 1
count_of None = 0

-- a list with the peak's words at its front, or as it was
abbrev pub with_fallback : List ℕ → Option RtPeak1D → List ℕ
with_fallback out (Some p) = rt_words p ++ drop rt_size out
with_fallback out None = out

-- the peak of a trace of the mobility peak with the record `peak`, its count, and the lent list afterwards
abbrev pub fallback_peak : List Float → List ℕ → List Float → List ℕ → Float → ℕ → Option RtPeak1D
fallback_peak trace ids times peak frac first = fallback_of trace ids times (peak_at peak 0) frac first

abbrev pub fallback_count : List Float → List ℕ → List Float → List ℕ → Float → ℕ → ℕ
fallback_count trace ids times peak frac first = count_of (fallback_peak trace ids times peak frac first)

abbrev pub fallback_list : List Float → List ℕ → List Float → List ℕ → Float → ℕ → List ℕ → List ℕ
fallback_list trace ids times peak frac first out =
    cond (eqb (fallback_number trace ids times peak frac (length out)) 0)
    (with_fallback out (fallback_peak trace ids times peak frac first))
    out
