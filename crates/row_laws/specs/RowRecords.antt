-- Every record of a row's list bears its row, its apex and its identity: at place k stands the record of the k-th apex that is kept, in
-- ascending order, with the k-th identity. Proved in proofs/RowRecords.antt, for every list of apexes.
use Rattle.std.specs.Prelude.{◌≡◌, List, ◌++◌, ℕ, ◌+◌, ◌-◌, ◌<◌, length, get_or, Float}
use Rattle.numeric.specs.Plain.{AllFit}
use Rattle.row_record.specs.declared.ImPeak1D.{ImPeak1D}
use Rattle.row_record.specs.Record.{peak_at}
use Rattle.row_params.specs.declared.ImDetectParams.{ImDetectParams}
use Rattle.row_params.specs.declared.RowPlace.{RowPlace}
use Rattle.row_params.specs.declared.FrameBounds.{FrameBounds}
use Rattle.row_search.specs.Qualifying.{kept}
use Rattle.row.specs.Row.{peak_of, row_words}

-- the k-th of apexes that are given the newest first, counted from the oldest, which is number 0
abbrev pub nth : List ℕ → ℕ → ℕ
nth ks k = get_or ks (length ks - 1 - k) 0

-- the record at place k of the peaks of the row r, with the apexes ks: its row, its apex and its identity
pub record Bears (r : RowPlace) (first : ℕ) (ks : List ℕ) (k : ℕ) (p : ImPeak1D) : Type 0 where
  pub row : p.tof_row ≡ r.tof_row
  pub apex : p.scan ≡ nth ks k
  pub identity : p.id ≡ first + k

-- so does every record of the kept apexes, whatever follows them
abbrev pub KeptBear : Type 0
KeptBear =
    (r : RowPlace) (f : FrameBounds) (mobility : List Float) (axis : List ℕ) (y z : List Float) (p : ImDetectParams) (first : ℕ) (rest : List ℕ) (k : ℕ)
    → k < length (kept p y z)
    → Bears r first (kept p y z) k (peak_at (row_words r f mobility axis y z first (kept p y z) ++ rest) k)

-- and it is that of its apex in every field. The floats are binary32 values, as every f32 is.
abbrev pub KeptWhole : Type 0
KeptWhole =
    (r : RowPlace) (f : FrameBounds) (mobility : List Float) (axis : List ℕ) (y z : List Float) (p : ImDetectParams) (first : ℕ)
    → AllFit y → AllFit z → AllFit mobility → (rest : List ℕ) (k : ℕ) → k < length (kept p y z)
    → peak_at (row_words r f mobility axis y z first (kept p y z) ++ rest) k ≡ peak_of r f mobility axis y z (nth (kept p y z) k) (first + k)

-- the kept apexes ascend, strictly
abbrev pub KeptAscend : Type 0
KeptAscend = (p : ImDetectParams) (y z : List Float) (j k : ℕ) → j < k → k < length (kept p y z) → nth (kept p y z) j < nth (kept p y z) k
