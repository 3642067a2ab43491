-- One row of scratch is enough: a longer one changes nothing of what is answered.
use Rattle.std.specs.Prelude.{◌≡◌, List, ℕ, ◌≤◌, length, Float, Result}
use Rattle.refusal.specs.declared.Refusal.{Refusal}
use Rattle.grid_rows.specs.Grid.{Grid}
use Rattle.grid.specs.GridNumber.{grid_number}
use Rattle.grid.specs.Answer.{Answered}

-- with scratch of at least one row the number is that of exactly one row, and it is not 21: `one-row-enough` in proofs/OneRow.antt
abbrev pub OneRowEnough : Type 0
OneRowEnough =
    (g : Grid) (rows room scratch : ℕ) → g.cols ≤ scratch
    → (grid_number g rows room scratch ≡ grid_number g rows room g.cols) × (grid_number g rows room scratch ≡ 21 → ⊥)

-- and two calls that differ in their scratch alone give the same answer and the same list, if each scratch has at least one row: `same-answer`
abbrev pub SameAnswer : Type 0
SameAnswer =
    (g : Grid) (rows : ℕ) (out₀ one other : List ℕ) (s₀ s t₀ t : List Float) (a b : Result ℕ Refusal) → g.cols ≤ length s₀ → g.cols ≤ length t₀
    → Answered g rows out₀ one s₀ s a → Answered g rows out₀ other t₀ t b → (a ≡ b) × (one ≡ other)
