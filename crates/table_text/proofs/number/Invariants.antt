use Rattle.std.proofs.Common.{◌^◌, ◌<◌, drop}
use Rattle.table_text.proofs.Laws.{Counted}
use Rattle.table_text.proofs.number.Given as goal

abbrev pub invariant-loop-b : goal.invariant-loop-b
invariant-loop-b l = (l.value < 10 ^ l.b-index) × Counted l.limit l.field l.value (drop l.b-index l.field)
