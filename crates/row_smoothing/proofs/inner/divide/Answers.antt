use lib.ListN.{length-set}
use mathlib.Core.Path.{◌≡◌, refl, sym, ◌∙◌}
use Prim.Native.Nat.{ℕ}
use native.Mathlib.Omega.{arith}
use lib.Ieee.{Float}
use Rattle.numeric.specs.Arith.{◌⊘◌, at}
use Rattle.row_smoothing.proofs.Laws.{filled-done, filled_none, filled_at, filled-turn, tab-map}
use Rattle.row_smoothing.proofs.inner.divide.Goals as goal

pub loop-x-init : goal.loop-x-init
loop-x-init c = (omega arith, refl, sym (filled_none _ 0 c.args.dst.now))

pub loop-x-preserved : goal.loop-x-preserved
loop-x-preserved c = let d = c.args.dst.now in
    let x = c.loop-x.dst in
    let i = c.loop-x.x-index in
    let by = c.args.by in
    let f : ℕ → Float = λ j. at d j ⊘ by in
    let e : at x i ≡ at d i = rw c.loop-x.invariant.2 (filled_at f 0 d i (omega arith) (omega arith)) in
    (omega arith, rw length-set c.loop-x.invariant.1, filled-turn f 0 i d x (at x i ⊘ by) (omega arith) (omega arith) c.loop-x.invariant.2 (rw e))

pub returns : goal.returns
returns c = let d = c.args.dst.now in
    filled-done (λ j. at d j ⊘ c.args.by) d c.loop-x.dst c.loop-x.x-index (omega arith) c.loop-x.invariant.2 ∙ sym (tab-map (λ a. a ⊘ c.args.by) d)
