use lib.ListN.{length}
use mathlib.Core.Path.{◌≡◌}
use Prim.Native.Nat.{ℕ, ◌≤◌, ◌+◌}
use Rattle.numeric.specs.Arith.{◌⊕◌, ◌⊗◌, at}
use Rattle.row_smoothing.specs.Steps.{filled}
use Rattle.row_smoothing.proofs.inner.add_one.Given as goal

abbrev pub invariant-loop-i : goal.invariant-loop-i
invariant-loop-i l = (l.i ≤ length l.initial.dst) × (length l.dst ≡ length l.initial.dst) × (l.dst ≡ filled (λ (j : ℕ). at l.initial.dst j ⊕ l.w ⊗ at l.src (j + l.k)) 0 l.i l.initial.dst)
