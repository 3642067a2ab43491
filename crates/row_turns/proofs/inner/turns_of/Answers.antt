use mathlib.Core.Path.{refl, sym}
use Prim.Native.Nat.{◌<◌, ◌+◌}
use native.Mathlib.Omega.{arith}
use lib.ListN.{length, set, length-set}
use lib.Ieee.{lt}
use Rattle.numeric.specs.Arith.{at}
use Rattle.numeric.proofs.Patterns.{lt-bits}
use Rattle.row_turns.proofs.Laws.{Going, goes_on, turns-here, starts, ends-up, ends-down}
use Rattle.row_turns.proofs.Apexes.{candidates-are, no-candidates}
use Rattle.row_turns.proofs.inner.turns_of.Goals.{then-up-on, else-up-on}
use Rattle.row_turns.proofs.inner.turns_of.Goals as goal
use Rattle.numeric.proofs.Laws.{as_number}

pub returns-then-n-lt3 : goal.returns-then-n-lt3
returns-then-n-lt3 c = record { are = no-candidates c.args.y.now _ (omega arith); shape = λ h. absurd (omega arith) }

pub loop-i-init : goal.loop-i-init
loop-i-init c = let y = c.args.y.now in
    let e = lt-bits (at y 0) (at y 1) (c.requires.0 0 (omega arith)) (c.requires.0 1 (omega arith)) in
    let r : 0 < length c.args.turns.now = omega arith in
    let g : Going y (set c.args.turns.now 0 0) c.from-j.result 1 (lt (at y 0) (at y 1)) = rw (c.from-j.ensures, as_number (lt (at y 0) (at y 1))) (starts y c.args.turns.now (lt (at y 0) (at y 1)) (sym e) r) in
    (g.few, omega arith, refl, refl, g)

pub loop-i-preserved : goal.loop-i-preserved
loop-i-preserved c = let y = c.args.y.now in
    let i = c.loop-i.i in
    let e = lt-bits (at y i) (at y (i + 1)) (c.requires.0 i (omega arith)) (c.requires.0 (i + 1) (omega arith)) in
    let h = c.loop-i.invariant.4 in
    let r : c.loop-i.j < length c.loop-i.turns = omega (arith, length-set c.args.turns.now 0 0) in
    let g : Going y (set c.loop-i.turns c.loop-i.j i) c.if-up-on.j (i + 1) (lt (at y i) (at y (i + 1))) = elim c.if-up-on.branch [ then-up-on w ↦ rw w.j-is (turns-here h (sym e) w.if-up-on.true r) | else-up-on w ↦ rw w.j-is (goes_on h (sym e) w.if-up-on.false) ] in
    (g.few, omega arith, refl, rw length-set c.loop-i.invariant.3, g)

pub returns-then-up : goal.returns-then-up
returns-then-up c = let q = c.loop-i.invariant.4 in
    let t = ends-up (rw c.if-up.true at q) (omega arith) (omega arith) (omega (arith, length-set c.args.turns.now 0 0)) in
    record { are = candidates-are c.requires.0 t; shape = λ _. t }

pub returns : goal.returns
returns c = let q = c.loop-i.invariant.4 in
    let t = ends-down (rw c.if-up.false at q) (omega arith) (omega arith) (omega (arith, length-set c.args.turns.now 0 0)) in
    record { are = candidates-are c.requires.0 t; shape = λ _. t }
