-- What the number of a row to smooth says.
use Rattle.std.specs.Prelude.{List, ℕ, ◌<◌, Float}
use Rattle.refusal.specs.Refusal.{Lowest}
use Rattle.row_smoothing.specs.Smoothing.{smooth_checks, smooth_number}

-- it is the lowest that applies: `number-lowest` in proofs/SmoothLaws.antt
abbrev pub SmoothLowest : Type 0
SmoothLowest = (v ws : List Float) (scratch : ℕ) → 0 < smooth_number v ws scratch → Lowest (smooth_checks v ws scratch) (smooth_number v ws scratch)
