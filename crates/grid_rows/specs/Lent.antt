-- The lists that are lent for the rows of a grid.
use Rattle.std.specs.Prelude.{◌≡◌, ℕ, ◌≤◌, length}
use Rattle.row_search.specs.SameLists.{SameLists}
use Rattle.grid_rows.specs.declared.lent.RowScratch.{RowScratch}

-- they are long enough for rows of so many columns, of which `spare` readings are decoded
pub record Lent (spare cols : ℕ) (s : RowScratch) : Type 0 where
  pub decoded : length s.z.now ≡ spare
  pub smoothed : cols ≤ length s.y.now
  pub samples : cols ≤ s.search.now.samples

-- a scratch that holds the same lists as before
abbrev pub SameRowScratch : RowScratch → RowScratch → Type 0
SameRowScratch was is = (is.z.ghost_name ≡ was.z.ghost_name) × (is.y.ghost_name ≡ was.y.ghost_name) × (is.search.ghost_name ≡ was.search.ghost_name) × SameLists was.search.now is.search.now
