use Rattle.row_apex.proofs.Laws.{left-on, left-stop}
use mathlib.Core.Path.{sym, ◌∙◌}
use native.Mathlib.Omega.{arith}
use Rattle.row_apex.proofs.inner.Level.left_foot.Goals as goal

pub loop-w-preserved : goal.loop-w-preserved
loop-w-preserved c = let args = c.args.self in
    (omega arith, c.loop-w.invariant.1 ∙ left-on args.y.now args.h c.loop-w.w (omega arith) c.if-y-w.true)

pub returns-else-y-w : goal.returns-else-y-w
returns-else-y-w c = sym (c.loop-w.invariant.1 ∙ left-stop c.args.self.y.now c.args.self.h c.loop-w.w c.if-y-w.false)
