use mathlib.Core.Path.{◌≡◌, ◌∙◌}
use Prim.Native.Nat.{◌≤◌, ◌+◌, ◌*◌, ◌/◌}
use native.Mathlib.Omega.{arith}
use lib.ListN.{length}
use Rattle.row_smoothing.specs.Smoothing.{weighted}
use Rattle.row_smoothing.proofs.Laws.{added-step-four, added-step}
use Rattle.row_smoothing.proofs.inner.add_all.Goals as goal

pub loop-k-init : goal.loop-k-init
unfolding weighted
loop-k-init c = record { long = c.clear.auto.dst; sums = c.clear.ensures }

pub loop-k-preserved : goal.loop-k-preserved
loop-k-preserved c = let u = c.args.u.now in
    let y = c.args.src.now in
    let n = length c.args.dst.now in
    let room : n + length u / 2 * 2 ≤ length y = omega (arith, c.requires) in
    let k = c.loop-k.k in
    let f = c.add_four in
    let e : 4 * (k + 1) ≡ 4 * k + 4 = omega arith in
    record { long = f.auto.dst ∙ c.loop-k.invariant.long; sums = rw e (f.ensures ∙ rw c.loop-k.invariant.sums (added-step-four u y n room (4 * k) (omega arith))) }

pub loop-k-2-preserved : goal.loop-k-2-preserved
loop-k-2-preserved c = let u = c.args.u.now in
    let y = c.args.src.now in
    let n = length c.args.dst.now in
    let room : n + length u / 2 * 2 ≤ length y = omega (arith, c.requires) in
    let k = c.loop-k-2.k in
    let f = c.add_one in
    record { long = f.auto.dst ∙ c.loop-k-2.invariant.long; sums = f.ensures ∙ rw c.loop-k-2.invariant.sums (added-step u y n room k (omega arith)) }
