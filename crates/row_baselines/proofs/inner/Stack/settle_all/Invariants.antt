use mathlib.Core.Path.{◌≡◌}
use lib.ListN.{length}
use Rattle.row_baselines.specs.Lows.{mark_at}
use Rattle.row_baselines.specs.Stack.{Stacked}
use Rattle.row_baselines.proofs.inner.Stack.settle_all.Given as goal

abbrev pub invariant-loop-t : goal.invariant-loop-t
invariant-loop-t l = (length l.bases ≡ length l.initial.bases) × Stacked (mark_at l.at.y.now l.at.turns.now) l.at.m l.at.m l.bases l.self.words.now l.t l.least
