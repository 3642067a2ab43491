-- What the number of a trace says.
use Rattle.std.specs.Prelude.{List, ℕ, ◌<◌, Float}
use Rattle.refusal.specs.Refusal.{Lowest}
use Rattle.rt_fallback.specs.FallbackNumber.{fallback_checks, fallback_number}

-- it is the lowest that applies: `number-lowest` in proofs/FallbackNumberLaws.antt
abbrev pub FallbackLowest : Type 0
FallbackLowest =
    (trace : List Float) (ids : List ℕ) (times : List Float) (peak : List ℕ) (frac : Float) (room : ℕ)
    → 0 < fallback_number trace ids times peak frac room
    → Lowest (fallback_checks trace ids times peak frac room) (fallback_number trace ids times peak frac room)
