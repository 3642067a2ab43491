use mathlib.Core.Path.{◌≡◌}
use mathlib.Core.List.{List}
use Prim.Native.Nat.{ℕ, ◌≤◌, ◌-◌}
use Rattle.row_search.specs.Found.{Standing, oldest}
use Rattle.row.specs.Steps.{RecordsPut}
use lib.ListN.{length}
use Rattle.row.proofs.inner.Row.put_peaks.Given as goal

abbrev pub invariant-loop-j : goal.invariant-loop-j
invariant-loop-j g l =
    let r = l.self in
    (l.j ≤ l.n) × (length l.out ≡ length l.initial.out)
    × ((ks : List ℕ) → Standing r.y.now r.z.now l.found l.n ks
    → RecordsPut g.W.Written.form r.place r.bounds (g.M.Column.items r.mobility) (g.S.Column.items r.axis) r.y.now r.z.now l.first l.initial.out l.out l.j (oldest l.j ks))

abbrev pub decreases-loop-j : goal.decreases-loop-j
decreases-loop-j g l = l.n - l.j
