use Rattle.row_record.proofs.Missing.{some_then, unwrap_then}
use Rattle.stitch_merging.specs.Merging.{merged}
use Rattle.stitch_merging.specs.Walk.{sums_of, bounds_of, heights_of, sigma_of, state_of}
use Rattle.stitch_merging.proofs.Laws.{divided, first-none}
use Rattle.stitch_merging.proofs.inner.Merging.finish.Goals as goal

pub returns : goal.returns
unfolding merged state_of sums_of bounds_of heights_of sigma_of
returns c = λ ps h.
    simp (
      c.divisor_of-divisor.ensures,
      c.whole_mean.ensures,
      c.whole_mean-2.ensures,
      c.flags.ensures,
      c.unwrap_or.ensures,
      c.unwrap_or-2.ensures,
      c.whole_mean-3.ensures,
      c.whole_mean-4.ensures,
      c.mean.ensures,
      c.unwrap_or-3.ensures,
      c.of_u32.ensures,
      c.of_u32-2.ensures,
      c.width_of.ensures,
      h.state,
      divided,
      some_then,
      unwrap_then,
      first-none,
    )
