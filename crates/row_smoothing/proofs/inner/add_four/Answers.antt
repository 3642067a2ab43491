use lib.ListN.{length-set}
use mathlib.Core.Path.{◌≡◌, refl, sym, ◌∙◌}
use Prim.Native.Nat.{ℕ, ◌+◌}
use native.Mathlib.Omega.{arith}
use lib.Ieee.{Float}
use Rattle.numeric.specs.Arith.{◌⊕◌, ◌⊗◌, at}
use Rattle.row_smoothing.proofs.Laws.{filled-done, filled_none, filled_at, filled-turn, added-four}
use Rattle.row_smoothing.proofs.inner.add_four.Goals as goal

pub loop-i-init : goal.loop-i-init
loop-i-init c = (omega arith, refl, sym (filled_none _ 0 c.args.dst.now))

pub loop-i-preserved : goal.loop-i-preserved
loop-i-preserved c = let d = c.args.dst.now in
    let y = c.args.src.now in
    let u = c.args.u.now in
    let k = c.args.k in
    let x = c.loop-i.dst in
    let i = c.loop-i.i in
    let f : ℕ → Float = λ j. at d j ⊕ at u k ⊗ at y (j + k) ⊕ at u (k + 1) ⊗ at y (j + (k + 1)) ⊕ at u (k + 2) ⊗ at y (j + (k + 2)) ⊕ at u (k + 3) ⊗ at y (j + (k + 3)) in
    let e : at x i ≡ at d i = rw c.loop-i.invariant.2 (filled_at f 0 d i (omega arith) (omega arith)) in
    let v = at x i ⊕ at u k ⊗ at y (i + k) ⊕ at u (k + 1) ⊗ at y (i + (k + 1)) ⊕ at u (k + 2) ⊗ at y (i + (k + 2)) ⊕ at u (k + 3) ⊗ at y (i + (k + 3)) in
    (omega arith, rw length-set c.loop-i.invariant.1, filled-turn f 0 i d x v (omega arith) (omega arith) c.loop-i.invariant.2 (rw e))

pub returns : goal.returns
returns c = let d = c.args.dst.now in
    let y = c.args.src.now in
    let u = c.args.u.now in
    let k = c.args.k in
    filled-done _ d c.loop-i.dst c.loop-i.i (omega arith) c.loop-i.invariant.2 ∙ added-four y d (at u k) (at u (k + 1)) (at u (k + 2)) (at u (k + 3)) k (k + 1) (k + 2) (k + 3)
