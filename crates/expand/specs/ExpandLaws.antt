-- What the number of expansion's second call says.
use Rattle.std.specs.Prelude.{ℕ, ◌<◌}
use Rattle.refusal.specs.Refusal.{Lowest}
use Rattle.limits.specs.Limits.{max_reading}
use Rattle.frames_index.specs.FrameIndex.{seen_in}
use Rattle.frames_index.specs.IndexNumber.{index_checks}
use Rattle.expand_many.specs.Many.{Many}
use Rattle.expand.specs.ExpandCall.{Lent, many_asks, many_number}

-- it is the lowest that applies: `number-lowest` in proofs/ExpandLaws.antt
abbrev pub ExpandLowest : Type 0
ExpandLowest =
    (m : Many) (lent : Lent) (counts : ℕ) → 0 < many_number m lent counts
    → Lowest (index_checks (seen_in max_reading m.run.index) (many_asks m lent counts)) (many_number m lent counts)
