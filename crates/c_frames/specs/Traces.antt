-- What the C entries of traces answer.
use Rattle.std.specs.Prelude.{List, ℕ, length, Float}
use Rattle.tof_scale.specs.declared.TofScale.{TofScale}
use Rattle.frames_index.specs.FrameIndex.{Index}
use Rattle.frames_windows.specs.Windows.{row_window}
use Rattle.frames_windows.specs.declared.inner.Bounds.{Bounds}
use Rattle.frames_traces.specs.Traces.{trace_of, row_of, row_asks, bounds_asks, window_by}
use Rattle.c_frames.specs.Sums.{Summed}

-- around a TOF row
abbrev pub RowSummed : Index → ℕ → ℕ → ℕ → ℕ → List Float → List Float → ℕ → Type 0
RowSummed ix row pad s t was is r = Summed ix (row_asks ix (row_of row pad s t) (length was)) (trace_of ix (row_window (row_of row pad s t))) was is r

-- by TOF bounds
abbrev pub BoundsSummed : Index → TofScale → Bounds → List Float → List Float → ℕ → Type 0
BoundsSummed ix scale b was is r = Summed ix (bounds_asks ix scale b (length was)) (trace_of ix (window_by scale b)) was is r
