-- What the number of an area says.
use Rattle.std.specs.Prelude.{List, ◌<◌, Float}
use Rattle.refusal.specs.Refusal.{Lowest}
use Rattle.row_area.specs.Area.{area_checks, area_number}

-- it is the lowest that applies: `number-lowest` in proofs/AreaLaws.antt
abbrev pub AreaLowest : Type 0
AreaLowest = (y : List Float) (x0 x1 : Float) → 0 < area_number y x0 x1 → Lowest (area_checks y x0 x1) (area_number y x0 x1)
