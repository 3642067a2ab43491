-- What the steps of `smooth` leave in a buffer.
use Rattle.std.specs.Prelude.{List, ◌++◌, ℕ, ◌+◌, ◌-◌, length, take, drop, Float}
use Rattle.numeric.specs.Arith.{◌⊕◌, ◌⊗◌, at}
use Rattle.row_smoothing.specs.Smoothing.{tabulate}

-- d with f a, .. f (b - 1) in the places from a to b - 1
unfoldable pub filled : (ℕ → Float) → ℕ → ℕ → List Float → List Float
filled f a b d = take a d ++ (tabulate (b - a) (λ j. f (j + a)) ++ drop b d)

-- d with w times the reading k further on added to each place
unfoldable pub added : List Float → Float → ℕ → List Float → List Float
added y w k d = tabulate (length d) (λ j. at d j ⊕ w ⊗ at y (j + k))
