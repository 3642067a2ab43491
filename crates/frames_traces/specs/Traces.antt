-- Retention traces: the readings of a window of an index, summed by frame, over all frames.
use Rattle.std.specs.Prelude.{Bool, ◌&&◌, List, ℕ, leb, length, Float, Result}
use Rattle.refusal.specs.declared.Refusal.{Refusal}
use Rattle.refusal.specs.Numbered.{says}
use Rattle.limits.specs.Limits.{max_reading, last_row, max_count, max_scan, max_tof_bound}
use Rattle.tof_scale.specs.declared.TofScale.{TofScale}
use Rattle.tof_scale.specs.Tof.{sound_step, sound_ends, agreeing}
use Rattle.frames_index.specs.declared.numbers.Further.{Further}
use Rattle.frames_index.specs.FrameIndex.{Index, frames}
use Rattle.frames_index.specs.IndexNumber.{index_number, met, Front}
use Rattle.frames_sums.specs.declared.inner.Window.{Window}
use Rattle.frames_sums.specs.Sums.{frame_sums}
use Rattle.frames_windows.specs.declared.inner.Bounds.{Bounds}
use Rattle.frames_windows.specs.declared.inner.PaddedRow.{PaddedRow}
use Rattle.frames_windows.specs.Windows.{row_window, bounds_window}

-- a sum for each frame, from the first on
abbrev pub trace_of : Index → Window → List Float
trace_of ix w = frame_sums ix w 0 (frames ix)

-- ---- numbers

-- number 5: scans to 65,535; a reversed range is none of its reasons, and nothing lies in it
unfoldable pub sound_scans : ℕ → ℕ → Bool
sound_scans s t = leb s max_scan && leb t max_scan

-- what a trace around a TOF row is asked besides its index: a row to 4,194,303 and a pad to 65,535, scans, and a place for each frame
abbrev pub row_asks : Index → PaddedRow → ℕ → Further
row_asks ix r room =
    record met { values = leb r.row last_row && leb r.pad max_count; axes = sound_scans r.scan_lo r.scan_hi; room = leb (frames ix) room }

-- a TOF row, the bins to take on either side of it, and scans
abbrev pub row_of : ℕ → ℕ → ℕ → ℕ → PaddedRow
row_of row pad s t = record { row = row; pad = pad; scan_lo = s; scan_hi = t }

-- TOF bounds, the bins to take on either side of theirs, and scans
abbrev pub bounds_of : ℕ → ℕ → ℕ → ℕ → ℕ → Bounds
bounds_of a b pad s t = record { tof_lo = a; tof_hi = b; pad = pad; scan_lo = s; scan_hi = t }

-- number 5 by bounds: the ends of the scale to 4,194,303, bounds to 4,259,839 in either order, and scans
unfoldable pub sound_axes : TofScale → Bounds → Bool
sound_axes scale b = sound_ends scale && leb b.tof_lo max_tof_bound && leb b.tof_hi max_tof_bound && sound_scans b.scan_lo b.scan_hi

-- what a trace by bounds is asked: a step from 1 to 65,536 and a pad to 65,535, axes, a place for each frame, and a scale whose numbers agree
abbrev pub bounds_asks : Index → TofScale → Bounds → ℕ → Further
bounds_asks ix scale b room =
    record met {
      values = sound_step scale.tof_step && leb b.pad max_count;
      axes = sound_axes scale b;
      room = leb (frames ix) room;
      scale = agreeing scale;
    }

-- ---- what is left of a call, with readings to 2^32

-- around a TOF row
abbrev pub RowAnswered : Index → PaddedRow → List Float → List Float → Result ℕ Refusal → Type 0
RowAnswered ix p was is r = Front (index_number max_reading ix (row_asks ix p (length was))) (trace_of ix (row_window p)) was is (says r)

-- by TOF bounds
abbrev pub window_by : TofScale → Bounds → Window
window_by scale b = bounds_window scale b.tof_lo b.tof_hi b.pad b.scan_lo b.scan_hi

abbrev pub BoundsAnswered : Index → TofScale → Bounds → List Float → List Float → Result ℕ Refusal → Type 0
BoundsAnswered ix scale b was is r =
    Front (index_number max_reading ix (bounds_asks ix scale b (length was))) (trace_of ix (window_by scale b)) was is (says r)
