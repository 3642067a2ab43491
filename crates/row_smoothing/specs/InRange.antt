-- Smoothing keeps readings in range: it is a weighted mean, and rounding takes it past no limit.
use Rattle.std.specs.Prelude.{◌≡◌, true, List, Float}
use Rattle.limits.specs.Limits.{max_reading}
use Rattle.numeric.specs.Numeric.{all_in_range}
use Rattle.numeric.specs.Plain.{AllFit}
use Rattle.row_smoothing.specs.Smoothing.{smoothed, sound_weights}

-- with sound weights, a row from 0 to 2 ^ 32 stays within these limits (proofs/InRange.antt)
abbrev pub SmoothedInRange : Type 0
SmoothedInRange =
    (ws z : List Float) → sound_weights ws ≡ true → AllFit ws → AllFit z → all_in_range max_reading z ≡ true
    → all_in_range max_reading (smoothed ws z) ≡ true
