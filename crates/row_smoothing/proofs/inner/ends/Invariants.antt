use Rattle.std.proofs.Common.{◌≡◌, ℕ, ◌≤◌, ◌+◌, length}
use Rattle.row_smoothing.specs.Smoothing.{smoothed_at}
use Rattle.row_smoothing.specs.Steps.{filled}
use Rattle.row_smoothing.proofs.inner.ends.Given as goal

abbrev pub invariant-loop-j : goal.invariant-loop-j
invariant-loop-j l = (l.j ≤ length l.initial.part) × (length l.part ≡ length l.initial.part) × (l.part ≡ filled (λ (j : ℕ). smoothed_at l.u l.src (j + l.from)) 0 l.j l.initial.part)
