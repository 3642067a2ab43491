use native.Mathlib.Omega.{arith}
use Rattle.std.specs.Prelude.{None, Some}
use Rattle.row_search.specs.Qualifying.{kept}
use Rattle.row_search.proofs.QualifyingLaws.{kept-count}
use Rattle.row_smoothed.specs.SmoothRow.{samples_in, Says}
use Rattle.grid_rows.proofs.Laws.{listed-none}
use Rattle.grid_rows.proofs.rows.list_row.Goals as goal

pub returns-in_default-clause-listed : goal.returns-in_default-clause-listed
returns-in_default-clause-listed g c = let x = c.args in
    let r = x.row.now in
    let h : Says x.p x.kernel.now.weights.now r.z.now c.search_row.new.y c.search_row.new.scratch.found.now None = rw c.in_default.is at c.search_row.ensures.done.says in
    listed-none g.W.Written.form r.place r.bounds (g.M.Column.items r.mobility) x.p (g.S.Column.items r.axis) x.kernel.now.weights.now r.z.now x.first x.out.now h

pub put_peaks-requires-clause-apexes : goal.put_peaks-requires-clause-apexes
put_peaks-requires-clause-apexes g c = let x = c.args in
    let z = x.row.now.z.now in
    let y = samples_in x.kernel.now.weights.now z c.search_row.new.y in
    let h : Says x.p x.kernel.now.weights.now z c.search_row.new.y c.search_row.new.scratch.found.now (Some c.in-Some.n) = rw c.in-Some.is at c.search_row.ensures.done.says in
    rw c.samples.ensures (omega (arith, h.1.count, kept-count x.p y z), (kept x.p y z, h.1))
