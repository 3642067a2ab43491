-- What the number of a call says.
use Rattle.std.specs.Prelude.{ℕ, ◌<◌}
use Rattle.refusal.specs.Refusal.{Lowest}
use Rattle.rt_peaks.specs.Trace.{RtCall, rt_checks, rt_number}

-- it is the lowest that applies: `number-lowest` in proofs/TraceLaws.antt
abbrev pub RtLowest : Type 0
RtLowest = (c : RtCall) (room scratch : ℕ) → 0 < rt_number c room scratch → Lowest (rt_checks c room scratch) (rt_number c room scratch)
