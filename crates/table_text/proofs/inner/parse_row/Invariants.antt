use Rattle.std.proofs.Common.{◌≡◌, ◌≤◌, length, drop}
use Rattle.table_text.specs.Text.{fields}
use Rattle.table_text.proofs.Laws.{Got}
use Rattle.table_text.proofs.inner.parse_row.Given as goal

abbrev pub invariant-loop-count : goal.invariant-loop-count
invariant-loop-count l =
    (l.from ≤ length l.line) × (length l.row ≡ length l.initial.row) × Got l.line l.initial.row l.row l.count × (drop l.count (fields l.line) ≡ fields (drop l.from l.line))
