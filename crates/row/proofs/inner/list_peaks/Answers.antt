use native.Mathlib.Omega.{arith}
use lib.ListN.{length}
use Rattle.row_search.specs.Qualifying.{kept}
use Rattle.row_search.proofs.QualifyingLaws.{kept-count}
use Rattle.row.proofs.inner.list_peaks.Goals as goal

pub put_peaks-requires : goal.put_peaks-requires
put_peaks-requires c = let d = c.find_apexes-n.ensures.done in
    let r = c.args.row.now in
    let p = c.args.p in
    record {
      room = (length c.args.out.now, omega arith, c.requires.0);
      apexes = (omega (arith, d.count, kept-count p r.y.now r.z.now), (kept p r.y.now r.z.now, d));
    }
