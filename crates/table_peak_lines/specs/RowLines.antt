-- The lines that are printed for a row: those of its listed peaks, in order. The row is not smoothed, and no field of the table
-- speaks of frames, groups, mobility, identities or a scan axis: a scan is a place in the row.
use Rattle.std.specs.Prelude.{◌≡◌, true, List, [], ◌∷◌, ◌++◌, ℕ, ◌+◌, ◌*◌, ◌≤◌, length, drop, Float}
use Rattle.limits.specs.Limits.{any_number}
use Rattle.table_text.specs.Sizes.{line_bytes, max_fields, put_room}
use Rattle.numeric.specs.Numeric.{all_in_range}
use Rattle.row_params.specs.Params.{most_peaks}
use Rattle.row_params.specs.declared.ImDetectParams.{ImDetectParams}
use Rattle.row_params.specs.declared.RowPlace.{RowPlace}
use Rattle.row_params.specs.declared.FrameBounds.{FrameBounds}
use Rattle.std.specs.Prelude.{None}
use Rattle.row_record.specs.declared.ImPeak1D.{ImPeak1D}
use Rattle.row_search.specs.Qualifying.{kept}
use Rattle.row.specs.declared.inner.OnAxes.{OnAxes}
use Rattle.row.specs.Row.{peak_of}
use Rattle.table_text.specs.Print.{peak_line}

-- what the table does not print
abbrev pub place_of : ℕ → RowPlace
place_of r = record { tof_row = r; tof_center = 0; tof_lo = 0; tof_hi = 0 }

abbrev pub no_frames : FrameBounds
no_frames = record { rt_lo = 0; rt_hi = 0; frame_id_lo = 0; frame_id_hi = 0; window_group = None }

abbrev pub no_axes : OnAxes
no_axes = record { scan = 0; left = 0; right = 0; mobility = None }

-- the peak of an apex of row r, as far as it is printed
abbrev pub printed_peak : ℕ → List Float → ℕ → ImPeak1D
printed_peak r y i = peak_of (place_of r) no_frames [] [] y y i 0

-- the lines of apexes of row r, given the newest first
unfoldable pub lines_of : ℕ → List Float → List ℕ → List ℕ
lines_of r y [] = []
lines_of r y (i ∷ older) = lines_of r y older ++ peak_line (printed_peak r y i)

-- the lines of the listed peaks
abbrev pub row_lines : ImDetectParams → ℕ → List Float → List ℕ
row_lines p r y = lines_of r y (kept p y y)

-- The line of a peak is the same whatever frames, scan axis, mobilities and identity it is given: `line-alone` in proofs/Laws.antt.
abbrev pub LineAlone : Type 0
LineAlone =
    (r : RowPlace) (f : FrameBounds) (mobility : List Float) (axis : List ℕ) (y : List Float) (i id : ℕ)
    → peak_line (peak_of r f mobility axis y y i id) ≡ peak_line (printed_peak r.tof_row y i)

-- a row of numbers with a clear sign, and room for its lines
pub record Printable (y : List Float) (room : ℕ) : Type 0 where
  pub numbers : all_in_range any_number y ≡ true
  pub short : length y ≤ max_fields
  pub bytes : most_peaks (length y) * line_bytes + put_room ≤ room

-- the lines of the apexes es stand at the front of the buffer d, and are n bytes
pub record Printed (r : ℕ) (y : List Float) (d out : List ℕ) (n : ℕ) (es : List ℕ) : Type 0 where
  pub count : n ≡ length (lines_of r y es)
  pub front : out ≡ lines_of r y es ++ drop n d
