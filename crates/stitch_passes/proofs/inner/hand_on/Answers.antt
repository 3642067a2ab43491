use mathlib.Core.Path.{ap}
use mathlib.Core.List.{◌++◌, map}
use Prim.Native.Nat.{ℕ}
use lib.ListN.{get_or, take, drop}
use Rattle.stitch_passes.proofs.Laws.{next-kept, next-put}
use Rattle.stitch_passes.proofs.inner.hand_on.Goals as goal

pub loop-owner-preserved : goal.loop-owner-preserved
loop-owner-preserved c = let f : ℕ → ℕ = λ k. get_or c.args.numbers.now k 0 in
    let start = c.args.owners.now in
    let i = c.loop-owner.owner-index in
    rw c.loop-owner.invariant (next-put f start i c.loop-owner-test.true (f (get_or (map f (take i start) ++ drop i start) i 0)) (ap f (next-kept f start i c.loop-owner-test.true)))
