use mathlib.Core.Path.{◌∙◌}
use Prim.Native.Nat.{◌≤◌, ◌+◌, ◌*◌, ◌/◌}
use native.Mathlib.Omega.{arith}
use lib.ListN.{length}
use Rattle.row_smoothing.proofs.Laws.{middle-mean, middle-none}
use Rattle.row_smoothing.proofs.inner.middle_part.Goals as goal

pub returns-then-norm : goal.returns-then-norm
returns-then-norm c = let u = c.args.u.now in
    let y = c.args.src.now in
    let n = length c.args.dst.now in
    let room : n + length u / 2 * 2 ≤ length y = omega (arith, c.requires) in
    c.divide.ensures ∙ rw (c.sum_of-norm.ensures, c.add_all.ensures) (middle-mean u y n room (rw c.sum_of-norm.ensures at c.if-norm.true))

pub returns-else-norm : goal.returns-else-norm
returns-else-norm c = let u = c.args.u.now in
    let y = c.args.src.now in
    let n = length c.args.dst.now in
    let room : n + length u / 2 * 2 ≤ length y = omega (arith, c.requires) in
    c.clear.ensures ∙ rw c.add_all.auto.dst (middle-none u y n room (rw c.sum_of-norm.ensures at c.if-norm.false))
