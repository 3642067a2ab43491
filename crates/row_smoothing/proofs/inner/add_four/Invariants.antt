use lib.ListN.{length}
use mathlib.Core.Path.{◌≡◌}
use Prim.Native.Nat.{ℕ, ◌≤◌, ◌+◌}
use Rattle.numeric.specs.Arith.{◌⊕◌, ◌⊗◌, at}
use Rattle.row_smoothing.specs.Steps.{filled}
use Rattle.row_smoothing.proofs.inner.add_four.Given as goal

abbrev pub invariant-loop-i : goal.invariant-loop-i
invariant-loop-i l = (l.i ≤ length l.initial.dst) × (length l.dst ≡ length l.initial.dst) × (l.dst ≡ filled (λ (j : ℕ). at l.initial.dst j ⊕ l.w0 ⊗ at l.src (j + l.k) ⊕ l.w1 ⊗ at l.src (j + l.k1) ⊕ l.w2 ⊗ at l.src (j + l.k2) ⊕ l.w3 ⊗ at l.src (j + l.k3)) 0 l.i l.initial.dst)
