use mathlib.Core.Path.{refl}
use native.Mathlib.Omega.{arith}
use Rattle.row_baselines.specs.Lows.{mark_at}
use Rattle.row_baselines.proofs.Laws.{marked, none-swept}
use Rattle.row_baselines.proofs.inner.fill_bases.Goals as goal

pub loop-k-init : goal.loop-k-init
loop-k-init c = let mark = mark_at c.args.y.now c.args.turns.now in (
  omega arith,
  refl,
  refl,
  marked c.args.y.now c.args.turns.now c.args.m c.requires.0 c.requires.4 c.requires.1,
  none-swept mark c.args.m c.args.bases.now c.args.stack.now,
)
