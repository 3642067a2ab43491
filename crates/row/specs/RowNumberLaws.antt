-- What the number of a row says.
use Rattle.std.specs.Prelude.{List, ℕ, ◌<◌, Float}
use Rattle.refusal.specs.Refusal.{Lowest}
use Rattle.row_params.specs.declared.ImDetectParams.{ImDetectParams}
use Rattle.row_params.specs.declared.RowPlace.{RowPlace}
use Rattle.row_params.specs.declared.FrameBounds.{FrameBounds}
use Rattle.row.specs.RowNumber.{row_checks, row_number}

-- it is the lowest that applies: `number-lowest` in proofs/RowNumberLaws.antt
abbrev pub RowLowest : Type 0
RowLowest =
    (y z : List Float) (r : RowPlace) (f : FrameBounds) (mobility : List Float) (p : ImDetectParams) (axis : List ℕ) (first room : ℕ)
    → 0 < row_number y z r f mobility p axis first room
    → Lowest (row_checks y z r f mobility p axis first room) (row_number y z r f mobility p axis first room)
