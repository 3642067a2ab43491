-- What the number of a grid says.
use Rattle.std.specs.Prelude.{ℕ, ◌<◌}
use Rattle.refusal.specs.Refusal.{Lowest}
use Rattle.grid_rows.specs.Grid.{Grid}
use Rattle.grid.specs.GridNumber.{grid_checks, grid_number}

-- it is the lowest that applies: `number-lowest` in proofs/GridNumberLaws.antt
abbrev pub GridLowest : Type 0
GridLowest =
    (g : Grid) (rows room scratch : ℕ) → 0 < grid_number g rows room scratch
    → Lowest (grid_checks g rows room scratch) (grid_number g rows room scratch)
