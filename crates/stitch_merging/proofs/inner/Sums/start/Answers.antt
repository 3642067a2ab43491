use mathlib.Core.Path.{◌≡◌, refl}
use mathlib.Core.List.{[]}
use Rattle.stitch_merging.specs.declared.inner.Sums.{Sums}
use Rattle.stitch_merging.specs.Merging.{summed}
use Rattle.stitch_merging.specs.Walk.{sums_of}
use Rattle.stitch_merging.proofs.inner.Sums.start.Goals as goal

pub returns : goal.returns
unfolding sums_of summed
returns c = let s = c.default.result in
    let d = c.default.ensures in
    let zeros : ◌≡◌ {A = Sums} (record {
      weight = s.weight;
      area = s.area;
      tof_row = s.tof_row;
      tof_center = s.tof_center;
      scan = s.scan;
      scan_abs = s.scan_abs;
      subscan = s.subscan;
    }) (sums_of []) = rw (d.0, d.1.0, d.1.1.0, d.1.1.1.0, d.1.1.1.1.0, d.1.1.1.1.1.0, d.1.1.1.1.1.1) refl in
    c.join.ensures [] zeros
