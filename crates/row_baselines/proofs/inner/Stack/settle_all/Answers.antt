use mathlib.Core.Path.{◌≡◌, ◌∙◌}
use Prim.Native.Nat.{suc, ◌-◌}
use native.Mathlib.Omega.{arith}
use Rattle.row_baselines.specs.Lows.{mark_at}
use Rattle.row_baselines.specs.Stack.{height_at}
use Rattle.row_baselines.proofs.Laws.{pop-one, ends_last}
use Rattle.row_baselines.proofs.inner.Stack.settle_all.Goals as goal

pub loop-t-preserved : goal.loop-t-preserved
loop-t-preserved c = let mark = mark_at c.args.at.y.now c.args.at.turns.now in
    let stack = c.args.self.now.words.now in
    let w = c.settle-least in
    let i = c.loop-t.invariant in
    let t = c.loop-t.t - 1 in
    let e : c.loop-t.t ≡ suc t = omega arith in
    let h = suc (height_at mark stack t) in (
      w.auto.bases ∙ i.0,
      rw (w.ensures.1, w.ensures.0) (pop-one mark c.args.at.m c.args.at.m c.loop-t.bases stack t c.loop-t.least h (omega (arith, i.0, c.requires.1.bases-long)) (rw e at i.1) (omega arith) (ends_last mark c.args.at.m h)),
    )
