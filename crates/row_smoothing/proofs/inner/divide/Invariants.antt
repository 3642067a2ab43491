use lib.ListN.{length}
use mathlib.Core.Path.{◌≡◌}
use Prim.Native.Nat.{ℕ, ◌≤◌}
use Rattle.numeric.specs.Arith.{◌⊘◌, at}
use Rattle.row_smoothing.specs.Steps.{filled}
use Rattle.row_smoothing.proofs.inner.divide.Given as goal

abbrev pub invariant-loop-x : goal.invariant-loop-x
invariant-loop-x l = (l.x-index ≤ length l.initial.dst) × (length l.dst ≡ length l.initial.dst) × (l.dst ≡ filled (λ (j : ℕ). at l.initial.dst j ⊘ l.by) 0 l.x-index l.initial.dst)
