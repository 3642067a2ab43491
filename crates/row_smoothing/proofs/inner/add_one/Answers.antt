use lib.ListN.{length-set}
use mathlib.Core.Path.{◌≡◌, refl, sym}
use Prim.Native.Nat.{ℕ, ◌+◌}
use native.Mathlib.Omega.{arith}
use lib.Ieee.{Float}
use Rattle.numeric.specs.Arith.{◌⊕◌, ◌⊗◌, at}
use Rattle.row_smoothing.specs.Steps.{added}
use Rattle.row_smoothing.proofs.Laws.{filled-done, filled_none, filled_at, filled-turn}
use Rattle.row_smoothing.proofs.inner.add_one.Goals as goal

pub loop-i-init : goal.loop-i-init
loop-i-init c = (omega arith, refl, sym (filled_none _ 0 c.args.dst.now))

pub loop-i-preserved : goal.loop-i-preserved
loop-i-preserved c = let d = c.args.dst.now in
    let y = c.args.src.now in
    let k = c.args.k in
    let w = at c.args.u.now k in
    let x = c.loop-i.dst in
    let i = c.loop-i.i in
    let f : ℕ → Float = λ j. at d j ⊕ w ⊗ at y (j + k) in
    let e : at x i ≡ at d i = rw c.loop-i.invariant.2 (filled_at f 0 d i (omega arith) (omega arith)) in
    (omega arith, rw length-set c.loop-i.invariant.1, filled-turn f 0 i d x (at x i ⊕ w ⊗ at y (i + k)) (omega arith) (omega arith) c.loop-i.invariant.2 (rw e))

pub returns : goal.returns
unfolding added
returns c = let d = c.args.dst.now in
    let k = c.args.k in
    filled-done (λ j. at d j ⊕ at c.args.u.now k ⊗ at c.args.src.now (j + k)) d c.loop-i.dst c.loop-i.i (omega arith) c.loop-i.invariant.2
