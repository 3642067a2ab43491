use Rattle.stitch_peaks.proofs.Extremes.{extreme-join}
use Rattle.stitch_merging.specs.Walk.{bounds_of}
use Rattle.stitch_merging.proofs.inner.Bounds.join.Goals as goal

pub returns : goal.returns
unfolding bounds_of
returns c = λ ps some h.
    simp (
      c.min.ensures,
      c.max.ensures,
      c.min-2.ensures,
      c.max-2.ensures,
      c.min-3.ensures,
      c.max-3.ensures,
      c.min-4.ensures,
      c.max-4.ensures,
      c.min-5.ensures,
      c.max-5.ensures,
      h,
      extreme-join,
    )
