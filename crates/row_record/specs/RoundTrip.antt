-- A peak that is put into a list is got back as it was, and nothing else of the list changes.
use Rattle.std.specs.Prelude.{◌≡◌, List, ◌≢◌, ℕ, ◌+◌, ◌*◌, ◌≤◌, T, length}
use Rattle.std.specs.Float.{binary32}
use Rattle.std.specs.Float.Ieee.{fits}
use Rattle.row_record.specs.declared.ImPeak1D.{ImPeak1D}
use Rattle.row_record.specs.Record.{size, peak_from, peak_at, with_peak}

-- every float of a peak is one of binary32, as every f32 is
pub record FloatsFit (p : ImPeak1D) : Type 0 where
  pub sigma : T (fits binary32 p.scan_sigma)
  pub mobility : T (fits binary32 p.mobility)
  pub smoothed : T (fits binary32 p.apex_smoothed)
  pub raw : T (fits binary32 p.apex_raw)
  pub prominence : T (fits binary32 p.prominence)
  pub left : T (fits binary32 p.left_x)
  pub right : T (fits binary32 p.right_x)
  pub area : T (fits binary32 p.area_raw)
  pub subscan : T (fits binary32 p.subscan)

-- so it is with every peak that is read from a list: `read_fits` in proofs/RoundTrip.antt
abbrev pub ReadFits : Type 0
ReadFits = (l : List ℕ) (a : ℕ) → FloatsFit (peak_from l a)

-- the peak that was put is the peak that is got: `got-back`
abbrev pub GotBack : Type 0
GotBack = (l : List ℕ) (k : ℕ) (p : ImPeak1D) → k * size + size ≤ length l → FloatsFit p → peak_at (with_peak l k p) k ≡ p

-- every other peak of the list stays: `others-stay`
abbrev pub OthersStay : Type 0
OthersStay =
    (l : List ℕ) (k : ℕ) (p : ImPeak1D) → k * size + size ≤ length l → (j : ℕ) → j ≢ k → peak_at (with_peak l k p) j ≡ peak_at l j

-- the list keeps its length: `same_length`
abbrev pub SameLength : Type 0
SameLength = (l : List ℕ) (k : ℕ) (p : ImPeak1D) → k * size + size ≤ length l → length (with_peak l k p) ≡ length l
