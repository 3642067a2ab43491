use mathlib.Core.Path.{◌≡◌}
use mathlib.Core.List.{◌++◌, map}
use lib.ListN.{get_or, take, drop}
use Rattle.stitch_passes.proofs.inner.hand_on.Given as goal

abbrev pub invariant-loop-owner : goal.invariant-loop-owner
invariant-loop-owner l = l.owners ≡ map (λ k. get_or l.numbers k 0) (take l.owner-index l.initial.owners) ++ drop l.owner-index l.initial.owners
