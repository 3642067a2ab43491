use Rattle.std.proofs.Common.{◌≡◌, ◌&&◌, drop}
use Rattle.expand_numbers.specs.ExpandNumber.{all_weights}
use Rattle.expand_numbers.proofs.inner.all_weights.Given as goal

abbrev pub invariant-loop-k : goal.invariant-loop-k
invariant-loop-k l = all_weights l.lengths l.weights ≡ (l.all && all_weights (drop l.k-index l.lengths) l.rest)
