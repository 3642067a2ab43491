use Rattle.row.proofs.Laws.{ready, readings}
use mathlib.Core.Path.{sym}
use Rattle.row.proofs.find_im_peaks_row.Goals as goal

pub find_im_peaks_row-requires : goal.find_im_peaks_row-requires
find_im_peaks_row-requires c = let a = c.args in
    let r = a.row.now in
    let e = sym c.in_ok-check.ensures in
    let n = readings r.y.now r.z.now r.place r.bounds r.mobility.now a.p r.axis.now a.first _ e in
    (ready r.y.now r.z.now r.place r.bounds r.mobility.now a.p r.axis.now a.first _ e, n.0, n.1)
