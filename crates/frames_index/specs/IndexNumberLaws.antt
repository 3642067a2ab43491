-- What the number of a call on an index says.
use Rattle.std.specs.Prelude.{ℕ, ◌<◌}
use Rattle.refusal.specs.Refusal.{Lowest}
use Rattle.frames_index.specs.declared.numbers.Further.{Further}
use Rattle.frames_index.specs.FrameIndex.{Index, seen_in}
use Rattle.frames_index.specs.IndexNumber.{index_checks, index_number}

-- it is the lowest that applies: `number-lowest` in proofs/IndexNumberLaws.antt
abbrev pub IndexLowest : Type 0
IndexLowest = (limit : ℕ) (ix : Index) (f : Further) → 0 < index_number limit ix f → Lowest (index_checks (seen_in limit ix) f) (index_number limit ix f)
