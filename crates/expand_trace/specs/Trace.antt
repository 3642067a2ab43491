-- The trace of a mobility peak over its window, and the way that the peak takes.
use Rattle.std.specs.Prelude.{Bool, false, cond, ◌||◌, List, [], ◌∷◌, ℕ, ◌+◌, ◌-◌, ltb, length, Float}
use Rattle.std.specs.Float.Ieee.{lt}
use Rattle.numeric.specs.Arith.{𝟎}
use Rattle.row_record.specs.declared.ImPeak1D.{ImPeak1D}
use Rattle.tof_scale.specs.declared.TofScale.{TofScale}
use Rattle.frames_index.specs.FrameIndex.{Index}
use Rattle.frames_sums.specs.Sums.{frame_sums}
use Rattle.frames_windows.specs.Windows.{peak_window}
use Rattle.expand_trace.specs.declared.inner.Way.{Way}
use Rattle.expand_trace.specs.declared.inner.Way.TheVariants.{AllZero, TooShort, Smoothed}

-- the readings of the peak's bins, padded, and of its absolute scans, summed for each of the frames lo to hi
unfoldable pub trace_over : Index → TofScale → ℕ → ImPeak1D → ℕ → ℕ → List Float
trace_over ix scale pad p lo hi = frame_sums ix (peak_window scale pad p) lo (hi + 1 - lo)

-- some value of a trace is above 0
unfoldable pub any_above : List Float → Bool
any_above [] = false
any_above (v ∷ vs) = lt 𝟎 v || any_above vs

-- The way of a peak with this trace over its window, where fewer than `least` frames are not searched. Nothing has to be written to know
-- it: the sums are those of one frame each.
unfoldable pub way_of : List Float → ℕ → Way
way_of x least = cond (any_above x) (cond (ltb (length x) least) TooShort Smoothed) AllZero
