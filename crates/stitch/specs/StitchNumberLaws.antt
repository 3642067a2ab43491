-- What the number of a list to stitch says.
use Rattle.std.specs.Prelude.{Bool, List, ℕ, ◌<◌}
use Rattle.refusal.specs.Refusal.{Lowest}
use Rattle.stitch_matching.specs.declared.StitchParams.{StitchParams}
use Rattle.stitch.specs.declared.numbers.Rooms.{Rooms}
use Rattle.stitch.specs.StitchNumber.{stitch_checks, stitch_number}

-- it is the lowest that applies: `number-lowest` in proofs/StitchNumberLaws.antt
abbrev pub StitchLowest : Type 0
StitchLowest =
    (told : Bool) (list : List ℕ) (params : StitchParams) (room : Rooms) → 0 < stitch_number told list params room
    → Lowest (stitch_checks told list params room) (stitch_number told list params room)
