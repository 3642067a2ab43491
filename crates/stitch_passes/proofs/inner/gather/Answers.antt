use mathlib.Core.Path.{refl, ◌∙◌}
use native.Mathlib.Omega.{arith}
use lib.ListN.{get_or}
use Rattle.sort_digits.proofs.SortedLaws.{at-index}
use Rattle.stitch_passes.specs.Steps.{records_at}
use Rattle.stitch_passes.proofs.Laws.{one_more}
use Rattle.stitch_passes.proofs.inner.gather.Goals as goal

pub loop-i-init : goal.loop-i-init
unfolding records_at
loop-i-init c = refl

pub copy_at-requires : goal.copy_at-requires
copy_at-requires c = let order = c.args.order.now in
    (c.requires.0 (get_or order c.loop-i.i 0) (at-index order c.loop-i.i (omega arith)), omega (arith, c.loop-i.auto.sorted, c.requires.1))

pub loop-i-preserved : goal.loop-i-preserved
loop-i-preserved c = c.copy_at.ensures ∙ one_more c.args.list.now c.args.order.now c.args.sorted.now c.loop-i.sorted c.loop-i.i (omega arith) c.requires.0 c.loop-i.invariant
