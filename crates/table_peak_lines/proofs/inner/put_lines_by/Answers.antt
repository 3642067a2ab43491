use native.Mathlib.Omega.{arith}
use Rattle.row_search.specs.Qualifying.{kept}
use Rattle.row_search.proofs.QualifyingLaws.{kept-count}
use Rattle.table_peak_lines.proofs.inner.put_lines_by.Goals as goal

pub put_peak_lines-requires : goal.put_peak_lines-requires
put_peak_lines-requires c = let s = c in
    let x = s.args in
    let d = c.find_apexes-n.ensures.done in
    (s.requires.0, omega (arith, d.count, kept-count x.p x.y.now x.y.now), (kept x.p x.y.now x.y.now, d))
