-- Number 9 refuses no record that detection over a grid delivers. Proved in proofs/GridSound.antt.
use Rattle.std.specs.Prelude.{◌≡◌, true, List, ◌++◌, ℕ}
use Rattle.numeric.specs.Plain.{AllFit}
use Rattle.row_record.specs.Record.{all_sound}
use Rattle.grid_rows.specs.Grid.{Grid, count_to, words_to}
use Rattle.grid.specs.GridNumber.{grid_number}

-- A grid that no number refuses. Its floats are binary32 values, as every f32 is; owning a slice of them does not tell it
-- (numeric/specs/Plain.antt).
pub record Accepted (g : Grid) (rows room scratch : ℕ) : Type 0 where
  pub no_number : grid_number g rows room scratch ≡ 0
  pub readings-fit : AllFit g.used
  pub weights-fit : AllFit g.weights
  pub mobility-fits : AllFit g.mobility

-- every record of its list is sound, as it is read from there
abbrev pub GridSound : Type 0
GridSound = (g : Grid) (rows room scratch : ℕ) → Accepted g rows room scratch → all_sound (words_to g rows) (count_to g rows) ≡ true

-- and so it is whatever follows the records
abbrev pub FrontSound : Type 0
FrontSound =
    (g : Grid) (rows room scratch : ℕ) → Accepted g rows room scratch → (rest : List ℕ) → all_sound (words_to g rows ++ rest) (count_to g rows) ≡ true
