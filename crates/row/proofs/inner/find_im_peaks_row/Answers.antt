use mathlib.Core.Path.{sym, ◌∙◌}
use Rattle.row_search.proofs.QualifyingLaws.{kept_low}
use Rattle.row.proofs.Laws.{none-words}
use Rattle.row.proofs.inner.find_im_peaks_row.Goals as goal

pub returns-then-not-reaches_floor : goal.returns-then-not-reaches_floor
returns-then-not-reaches_floor c = let r = c.args.row.now in
    let e = kept_low c.args.p r.y.now r.z.now (sym c.reaches_floor.ensures ∙ c.if-not-reaches_floor.true) in
    record { count = rw e; front = rw e (none-words r.place r.bounds r.mobility.now r.axis.now r.y.now r.z.now c.args.first c.args.out.now) }
