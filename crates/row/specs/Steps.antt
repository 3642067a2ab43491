-- The steps of the row finder: what it asks of its arguments, and its records as they are listed.
use Rattle.std.specs.Prelude.{◌≡◌, true, List, ◌++◌, ℕ, ◌+◌, ◌*◌, ◌≤◌, ◌<◌, length, drop, Float}
use Rattle.limits.specs.Limits.{any_number, exact_index, identities}
use Rattle.numeric.specs.Arith.{𝟎}
use Rattle.numeric.specs.Numeric.{all_in_range}
use Rattle.row_record.specs.Record.{size}
use Rattle.row_params.specs.Params.{most_peaks}
use Rattle.row_params.specs.declared.ImDetectParams.{ImDetectParams}
use Rattle.row_params.specs.declared.RowPlace.{RowPlace}
use Rattle.row_params.specs.declared.FrameBounds.{FrameBounds}
use Rattle.row_search.specs.Qualifying.{highest_reading, reaches}
use Rattle.row_search.specs.Found.{measured_of}
use Rattle.row_search.specs.declared.inner.Measured.{Measured}
use Rattle.row.specs.Row.{row_words}
use Rattle.row.specs.Written.{Written, stride}

-- The row finder's arguments: rows and scan axis of one length; room for the words, and identities, of all the peaks that a
-- row of that length can have.
pub record Writable (y z : List Float) (axis : List ℕ) (first room : ℕ) : Type 0 where
  pub raw : length z ≡ length y
  pub scans : length axis ≡ length y
  pub short : length y ≤ exact_index
  pub words : most_peaks (length y) * size ≤ room
  pub ids : first + most_peaks (length y) ≤ identities

-- a row of numbers with a clear sign that reaches the floor
pub record Numbers (p : ImDetectParams) (y z : List Float) : Type 0 where
  pub numbers : all_in_range any_number y ≡ true
  pub floor : reaches p.min_prom (highest_reading 𝟎 z) ≡ true

-- what is measured of an apex inside of the row
pub record Inside (y z : List Float) (axis : List ℕ) (a : Measured) : Type 0 where
  pub is : a ≡ measured_of y z a.index
  pub low : 0 < a.index
  pub high : a.index + 1 < length y
  pub raw : length z ≡ length y
  pub scans : length axis ≡ length y
  pub short : length y ≤ exact_index

-- the records of the apexes es stand at the front of the list d, and there are n of them
pub record RecordsPut {T : Type 0} (w : Written T) (place : RowPlace) (bounds : FrameBounds) (mobility : List Float) (axis : List ℕ) (y z : List Float) (first : ℕ) (d out : List T) (n : ℕ) (es : List ℕ) : Type 0 where
  pub count : n ≡ length es
  pub front : out ≡ w.put (row_words place bounds mobility axis y z first es) ++ drop (n * stride w) d
