use mathlib.Core.Path.{sym, ◌∙◌}
use Prim.Native.Nat.{◌+◌}
use native.Mathlib.Omega.{arith}
use lib.ListN.{get_or, drop}
use Rattle.expand_numbers.specs.ExpandNumber.{sum_of}
use Rattle.expand_numbers.proofs.Laws.{sum_step, sum-end, sum_less, sum-on, zero-eqb}
use Rattle.expand_numbers.proofs.inner.sums_to.Goals as goal

pub returns-then-left-k : goal.returns-then-left-k
returns-then-left-k c = let g = c.args in
    let k = get_or g.lengths.now c.loop-k.k-index 0 in
    sym (c.loop-k.invariant ∙ rw (sum_step g.lengths.now c.loop-k.k-index (omega arith)) (sum_less k (sum_of (drop (c.loop-k.k-index + 1) g.lengths.now)) c.loop-k.left c.if-left-k.true))

pub loop-k-preserved : goal.loop-k-preserved
loop-k-preserved c = let g = c.args in
    let k = get_or g.lengths.now c.loop-k.k-index 0 in
    (c.loop-k.invariant ∙ rw (sum_step g.lengths.now c.loop-k.k-index (omega arith)) (sum-on k (sum_of (drop (c.loop-k.k-index + 1) g.lengths.now)) c.loop-k.left (omega (arith, c.if-left-k.false))))

pub returns : goal.returns
returns c = let g = c.args in
    sym (c.loop-k.invariant ∙ rw (sum-end g.lengths.now c.loop-k.k-index (omega arith)) (zero-eqb c.loop-k.left))
