-- What the number of a frame's points says.
use Rattle.std.specs.Prelude.{ℕ, ◌<◌}
use Rattle.refusal.specs.Refusal.{Lowest}
use Rattle.frames_view.specs.declared.numbers.Room.{Room}
use Rattle.frames_view.specs.Answer.{Frame, view_checks, view_number}

-- it is the lowest that applies: `number-lowest` in proofs/ViewLaws.antt
abbrev pub ViewLowest : Type 0
ViewLowest = (limit : ℕ) (f : Frame) (room : Room) → 0 < view_number limit f room → Lowest (view_checks limit f room) (view_number limit f room)
