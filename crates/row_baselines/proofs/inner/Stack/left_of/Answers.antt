use mathlib.Core.Path.{◌≡◌, sym, ◌∙◌, ap}
use Prim.Native.Nat.{suc, ◌-◌}
use native.Mathlib.Omega.{arith}
use Rattle.row_baselines.specs.Lows.{mark_at}
use Rattle.row_baselines.specs.Stack.{height_at, stack_low}
use Rattle.row_baselines.proofs.Laws.{empty, stops, equal-left}
use Rattle.row_baselines.proofs.inner.Stack.left_of.Goals as goal

pub returns-then-self-eq0 : goal.returns-then-self-eq0
returns-then-self-eq0 c = let mark = mark_at c.args.at.y.now c.args.at.turns.now in
    empty mark c.args.self.now.words.now c.args.h c.args.low c.args.self.now.depth (omega arith)

pub returns-then-h-apex : goal.returns-then-h-apex
returns-then-h-apex c = let mark = mark_at c.args.at.y.now c.args.at.turns.now in
    let stack = c.args.self.now.words.now in
    let t = c.args.self.now.depth - 1 in
    let e : c.args.self.now.depth ≡ suc t = omega arith in
    sym (ap (stack_low mark stack c.args.h c.args.low) e ∙ stops mark stack c.args.h c.args.low t (omega (arith, c.apex.ensures)))

pub returns : goal.returns
returns c = let mark = mark_at c.args.at.y.now c.args.at.turns.now in
    let stack = c.args.self.now.words.now in
    let t = c.args.self.now.depth - 1 in
    let e : c.args.self.now.depth ≡ suc t = omega arith in
    let same : height_at mark stack t ≡ c.args.h = omega (arith, c.apex.ensures, c.requires.2 t (omega arith)) in
    c.min.ensures
    ∙ equal-left mark c.args.at.m c.args.at.k c.args.bases.now stack t c.args.low c.args.low c.args.h (rw e at c.requires.1) same
    ∙ ap (stack_low mark stack c.args.h c.args.low) (sym e)
