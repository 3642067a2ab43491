-- Every record of a grid's list bears its row, its apex and its identity: the rows come one after another, and the apexes of a row that
-- are listed one after another. Proved in proofs/GridRecords.antt, for every grid, whatever follows the records.
use Rattle.std.specs.Prelude.{◌≡◌, List, ◌++◌, ◌⊎◌, ℕ, ◌+◌, ◌<◌, length}
use Rattle.numeric.specs.Plain.{AllFit}
use Rattle.row_record.specs.declared.ImPeak1D.{ImPeak1D}
use Rattle.row_record.specs.Record.{peak_at}
use Rattle.row.specs.Row.{peak_of}
use Rattle.row_laws.specs.RowRecords.{nth}
use Rattle.tof_scale.specs.Tof.{row_place}
use Rattle.grid_rows.specs.Grid.{Grid, row_of, searched_of, listed_in, count_to, words_to}

-- the peak p is listed: it bears row r, the k-th apex that is listed there, and its identity
pub record Bears (g : Grid) (r k : ℕ) (p : ImPeak1D) : Type 0 where
  pub row : p.tof_row ≡ r
  pub apex : p.scan ≡ nth (listed_in g r) k
  pub identity : p.id ≡ g.first + count_to g r + k

-- so does the record at the k-th place of row r
abbrev pub RowsBear : Type 0
RowsBear =
    (g : Grid) (rows : ℕ) (rest : List ℕ) (r k : ℕ) → r < rows → k < length (listed_in g r)
    → Bears g r k (peak_at (words_to g rows ++ rest) (count_to g r + k))

-- place j of the list is the k-th place of a row
pub record Placed (g : Grid) (rows j : ℕ) : Type 0 where
  pub row : ℕ
  pub k : ℕ
  pub among-rows : row < rows
  pub among-listed : k < length (listed_in g row)
  pub place : j ≡ count_to g row + k

-- and every place is one, so that the list has no other records
abbrev pub AllPlaced : Type 0
AllPlaced = (g : Grid) (rows j : ℕ) → j < count_to g rows → Placed g rows j

-- p stands before q: in a lower row, or at a lower apex of the same row
abbrev pub Before : ImPeak1D → ImPeak1D → Type 0
Before p q = (p.tof_row < q.tof_row) ⊎ ((p.tof_row ≡ q.tof_row) × (p.scan < q.scan))

-- the records ascend, strictly
abbrev pub RowsAscend : Type 0
RowsAscend =
    (g : Grid) (rows : ℕ) (rest : List ℕ) (i j : ℕ) → i < j → j < count_to g rows
    → Before (peak_at (words_to g rows ++ rest) i) (peak_at (words_to g rows ++ rest) j)

-- The record at the k-th place of row r is that of its apex in every field. The floats are binary32 values, as every f32 is.
abbrev pub RowsWhole : Type 0
RowsWhole =
    (g : Grid) (rows : ℕ) → AllFit g.used → AllFit g.mobility → (rest : List ℕ) (r k : ℕ) → r < rows → k < length (listed_in g r)
    → peak_at (words_to g rows ++ rest) (count_to g r + k)
    ≡ peak_of (row_place g.scale r) g.bounds g.mobility g.scans (searched_of g r) (row_of g r) (nth (listed_in g r) k) (g.first + count_to g r + k)
