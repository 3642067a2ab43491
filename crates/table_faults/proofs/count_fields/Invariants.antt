use Rattle.std.proofs.Common.{◌≡◌, length}
use Rattle.table_faults.proofs.Laws.{Seen}
use Rattle.table_faults.proofs.count_fields.Given as goal

abbrev pub invariant-loop-text : goal.invariant-loop-text
invariant-loop-text l = (l.count ≡ length l.yielded) × Seen l.kind l.line l.count l.at
