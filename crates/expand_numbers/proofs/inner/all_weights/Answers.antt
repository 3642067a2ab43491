use Rattle.std.proofs.Common.{sym, ◌∙◌, arith}
use Rattle.expand_numbers.proofs.Laws.{weights-step, weights-end}
use Rattle.expand_numbers.proofs.inner.all_weights.Goals as goal

pub loop-k-preserved : goal.loop-k-preserved
loop-k-preserved c = let l = c.loop-k in
    rw (c.sound_weights-all.ensures, c.split_at.ensures.front, c.split_at.ensures.back)
    (l.invariant ∙ weights-step c.args.lengths.now l.rest.now l.k-index c.min.result l.all (omega arith) c.min.ensures)

pub returns : goal.returns
returns c = let l = c.loop-k in
    sym (l.invariant ∙ weights-end c.args.lengths.now l.rest.now l.k-index l.all (omega arith))
