use mathlib.Core.Path.{◌≡◌, refl, sym, ◌∙◌}
use mathlib.Core.List.{[]}
use Rattle.row_search.specs.Qualifying.{kept}
use Rattle.row_search.proofs.QualifyingLaws.{kept_low}
use Rattle.table_peak_lines.specs.RowLines.{lines_of}
use Rattle.table_peak_lines.proofs.inner.put_row_lines.Goals as goal

pub returns-then-not-reaches_floor : goal.returns-then-not-reaches_floor
unfolding lines_of
returns-then-not-reaches_floor c = let x = c.args in
    let e : kept x.p x.y.now x.y.now ≡ [] = kept_low x.p x.y.now x.y.now (sym c.reaches_floor.ensures ∙ c.if-not-reaches_floor.true) in
    rw e (record { count = refl; front = refl })
