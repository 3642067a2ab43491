-- What is left of a grid, accepted or refused.
use Rattle.std.specs.Prelude.{◌≡◌, cond, List, ◌++◌, ℕ, ◌*◌, eqb, length, drop, Float, Result}
use Rattle.refusal.specs.Answers.{answer_by}
use Rattle.row_record.specs.Record.{size}
use Rattle.grid_rows.specs.Grid.{Grid, count_to, words_to}
use Rattle.grid.specs.GridNumber.{grid_number}
use Rattle.refusal.specs.declared.Refusal.{Refusal}
use Rattle.refusal.specs.Numbered.{says}

-- the number that a grid is answered with, for a lent list and a lent scratch
abbrev pub number_for : Grid → ℕ → List ℕ → List Float → ℕ
number_for g rows out scratch = grid_number g rows (length out) (length scratch)

-- What is left of a grid. Accepted, with number 0: the words of all peaks stand at the front of the list, and what the
-- scratch holds before the place `cols` is open. Refused: both are as they were.
pub record Answered (g : Grid) (rows : ℕ) (out₀ out : List ℕ) (scratch₀ scratch : List Float) (answer : Result ℕ Refusal) : Type 0 where
  pub answered : says answer ≡ answer_by (number_for g rows out₀ scratch₀) (count_to g rows)
  pub words : out ≡ cond (eqb (number_for g rows out₀ scratch₀) 0) (words_to g rows ++ drop (count_to g rows * size) out₀) out₀
  pub length-kept : length scratch ≡ length scratch₀
  pub past : drop (cond (eqb (number_for g rows out₀ scratch₀) 0) g.cols 0) scratch ≡ drop (cond (eqb (number_for g rows out₀ scratch₀) 0) g.cols 0) scratch₀
