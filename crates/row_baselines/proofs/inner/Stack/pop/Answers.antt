use mathlib.Core.Path.{◌≡◌, ◌∙◌}
use Prim.Native.Nat.{suc, ◌<◌, ◌-◌}
use native.Mathlib.Omega.{arith}
use Rattle.row_baselines.specs.Lows.{mark_at}
use Rattle.row_baselines.specs.Stack.{height_at}
use Rattle.row_baselines.proofs.Laws.{pop-one, pop-passes}
use Rattle.row_baselines.proofs.inner.Stack.pop.Goals as goal

pub loop-t-preserved : goal.loop-t-preserved
loop-t-preserved c = let mark = mark_at c.args.at.y.now c.args.at.turns.now in
    let stack = c.loop-t.self.words.now in
    let w = c.settle-least in
    let i = c.loop-t.invariant in
    let t = c.loop-t.t - 1 in
    let e : c.loop-t.t ≡ suc t = omega arith in
    let less : height_at mark stack t < c.args.h = omega (arith, c.apex.ensures) in (
      i.0,
      w.auto.bases ∙ i.1,
      rw (w.ensures.1, w.ensures.0) (pop-one mark c.args.at.m c.args.at.k c.loop-t.bases stack t c.loop-t.least c.args.h (omega (arith, i.1, c.requires.0.on, c.requires.0.bases-long)) (rw e at i.2) less c.requires.3),
      rw w.ensures.0 (pop-passes mark c.args.at.k c.args.h stack c.args.low t c.loop-t.least less (rw e at i.3)),
    )
