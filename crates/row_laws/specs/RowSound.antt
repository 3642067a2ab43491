-- Number 9 refuses no record that detection delivers, for a row whose TOF bounds are not reversed. Proved in proofs/RowSound.antt.
use Rattle.std.specs.Prelude.{◌≡◌, true, List, ℕ, ◌≤◌, length, Float}
use Rattle.numeric.specs.Plain.{AllFit}
use Rattle.row_record.specs.Record.{sound, all_sound}
use Rattle.row_params.specs.declared.ImDetectParams.{ImDetectParams}
use Rattle.row_params.specs.declared.RowPlace.{RowPlace}
use Rattle.row_params.specs.declared.FrameBounds.{FrameBounds}
use Rattle.row_search.specs.Account.{◌∈◌}
use Rattle.row_search.specs.Qualifying.{kept}
use Rattle.row.specs.Row.{peak_of}
use Rattle.row.specs.RowNumber.{row_number, row_list}

-- A row that no number refuses, and whose TOF bounds are not reversed: no number refuses reversed ones (specs/Cases.antt). Its floats
-- are binary32 values, as every f32 is; owning a slice of them does not tell it (numeric/specs/Plain.antt).
pub record Accepted (y z : List Float) (r : RowPlace) (f : FrameBounds) (mobility : List Float) (p : ImDetectParams) (axis : List ℕ) (first room : ℕ) : Type 0 where
  pub no_number : row_number y z r f mobility p axis first room ≡ 0
  pub bounds : r.tof_lo ≤ r.tof_hi
  pub smoothed-fits : AllFit y
  pub raw-fits : AllFit z
  pub mobility-fits : AllFit mobility

-- the record of every apex that is kept is sound, whatever its identity
abbrev pub PeaksSound : Type 0
PeaksSound =
    (y z : List Float) (r : RowPlace) (f : FrameBounds) (mobility : List Float) (p : ImDetectParams) (axis : List ℕ) (first room : ℕ)
    → Accepted y z r f mobility p axis first room → (i id : ℕ) → i ∈ kept p y z → sound (peak_of r f mobility axis y z i id) ≡ true

-- and so is every record of the list that is handed back, as it is read from there
abbrev pub ListSound : Type 0
ListSound =
    (y z : List Float) (r : RowPlace) (f : FrameBounds) (mobility : List Float) (p : ImDetectParams) (axis : List ℕ) (first : ℕ) (out : List ℕ)
    → Accepted y z r f mobility p axis first (length out)
    → all_sound (row_list y z r f mobility p axis first out) (length (kept p y z)) ≡ true
