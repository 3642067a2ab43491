use Rattle.std.proofs.Common.{◌≡◌, drop}
use lib.Dec.{eqb}
use Rattle.expand_numbers.specs.ExpandNumber.{sum_of}
use Rattle.expand_numbers.proofs.inner.sums_to.Given as goal

abbrev pub invariant-loop-k : goal.invariant-loop-k
invariant-loop-k l = eqb (sum_of l.lengths) l.n ≡ eqb (sum_of (drop l.k-index l.lengths)) l.left
