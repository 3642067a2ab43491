use mathlib.Core.Path.{◌≡◌}
use mathlib.Core.List.{List}
use Prim.Native.Nat.{ℕ, ◌≤◌, ◌-◌}
use lib.ListN.{length}
use Rattle.row_search.specs.Found.{Standing, oldest}
use Rattle.table_peak_lines.specs.RowLines.{Printed}
use Rattle.table_peak_lines.proofs.inner.put_peak_lines.Given as goal

abbrev pub invariant-loop-j : goal.invariant-loop-j
invariant-loop-j l = (l.j ≤ l.n) × (length l.out ≡ length l.initial.out) × ((ks : List ℕ) → Standing l.y l.y l.found l.n ks → Printed l.tof_row l.y l.initial.out l.out l.at (oldest l.j ks))

abbrev pub decreases-loop-j : goal.decreases-loop-j
decreases-loop-j l = l.n - l.j
