use Rattle.tof_scale.proofs.TofLaws.{plain, edge-le}
use native.Mathlib.Omega.{arith}
use Rattle.tof_scale.proofs.inner.row_place.Goals as goal

pub overflow_add-result : goal.overflow_add-result
overflow_add-result c = let p = plain c.args.s.scale c.args.s.sound in record { fits = omega arith }

pub overflow_add-result-2 : goal.overflow_add-result-2
overflow_add-result-2 c = let p = plain c.args.s.scale c.args.s.sound in
    let l = edge-le c.args.s.scale c.args.s.sound c.args.i c.requires in
    let e = c.edge_of-lo.ensures in
    record { fits = omega arith }

pub overflow_add-result-3 : goal.overflow_add-result-3
overflow_add-result-3 c = let p = plain c.args.s.scale c.args.s.sound in
    let l = edge-le c.args.s.scale c.args.s.sound c.args.i c.requires in
    let e = c.edge_of-lo.ensures in
    record { fits = omega arith }
