use mathlib.Core.Path.{◌≡◌}
use lib.ListN.{length}
use Rattle.row_baselines.specs.Lows.{mark_at}
use Rattle.row_baselines.specs.Stack.{Stacked, Passes}
use Rattle.row_baselines.proofs.inner.Stack.pop.Given as goal

abbrev pub invariant-loop-t : goal.invariant-loop-t
invariant-loop-t l =
    let stack = l.self.words.now in
    let mark = mark_at l.at.y.now l.at.turns.now in
    (stack ≡ l.initial.self.words.now) × (length l.bases ≡ length l.initial.bases) × Stacked mark l.at.m l.at.k l.bases stack l.t l.least × Passes mark l.at.k l.h stack l.low l.t l.least
