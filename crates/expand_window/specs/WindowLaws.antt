-- What the number of the first call says.
use Rattle.std.specs.Prelude.{List, ℕ, ◌<◌, Float}
use Rattle.refusal.specs.Refusal.{Lowest}
use Rattle.rt_params.specs.declared.RtExpandParams.{RtExpandParams}
use Rattle.expand_window.specs.Window.{window_checks, window_number}

-- it is the lowest that applies: `number-lowest` in proofs/WindowLaws.antt
abbrev pub WindowLowest : Type 0
WindowLowest =
    (peak ids : List ℕ) (times : List Float) (e : RtExpandParams) → 0 < window_number peak ids times e
    → Lowest (window_checks peak ids times e) (window_number peak ids times e)
