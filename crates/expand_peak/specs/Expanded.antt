-- The retention peaks of a mobility peak over a run.
use Rattle.std.specs.Prelude.{Option, Some, None, List, [], ◌∷◌, map, ℕ, length, Float}
use Rattle.row_smoothing.specs.Smoothing.{smoothed}
use Rattle.row_record.specs.declared.ImPeak1D.{ImPeak1D}
use Rattle.tof_scale.specs.declared.TofScale.{TofScale}
use Rattle.frames_index.specs.FrameIndex.{Index}
use Rattle.rt_noise.specs.Noise.{noise_f}
use Rattle.rt_params.specs.Modes.{effective_f}
use Rattle.rt_params.specs.declared.RtExpandParams.{RtExpandParams}
use Rattle.expand_padded_window.specs.declared.Frames.{Frames}
use Rattle.expand_padded_window.specs.FrameWindow.{padded_window}
use Rattle.expand_window.specs.Window.{cut}
use Rattle.rt_record.specs.declared.RtPeak1D.{RtPeak1D}
use Rattle.rt_apex.specs.InTime.{local_peak_of}
use Rattle.rt_search.specs.Retention.{listed_apexes}
use Rattle.expand_trace.specs.declared.inner.Way.{Way}
use Rattle.expand_trace.specs.declared.inner.Way.TheVariants.{AllZero, TooShort, Smoothed}
use Rattle.expand_trace.specs.Trace.{trace_over, way_of}
use Rattle.expand_trace.specs.FallbackPeaks.{placed_all, fallback_peaks}

-- A run: the index of its points, the numbers and the times of its frames, and its scale.
pub record Run : Type 0 where
  pub index : Index
  pub ids : List ℕ
  pub times : List Float
  pub scale : TofScale

abbrev pub run_of : Index → List ℕ → List Float → TofScale → Run
run_of index ids times scale = record { index = index; ids = ids; times = times; scale = scale }

-- ---- over a window of frames

-- the effective threshold of a smoothed trace: the floor of its apexes
abbrev pub floor_of : RtExpandParams → List Float → Float
floor_of e y = effective_f e.min_prom (noise_f y)

-- the listed apexes of a trace with smoothed values y, raw values x and times t
unfoldable pub searched : RtExpandParams → List Float → List Float → List Float → List ℕ
searched e y x t = listed_apexes (floor_of e y) e.min_sep_sec e.min_width_sec y x t

-- the retention peaks of p from the search of the trace x over the frames lo to hi, smoothed by the weights ws, with identities from
-- `first` on
unfoldable pub searched_peaks : Run → RtExpandParams → List Float → ImPeak1D → ℕ → ℕ → List Float → ℕ → List RtPeak1D
searched_peaks run e ws p lo hi x first =
    let y = smoothed ws x in
    let t = cut lo hi run.times in
    placed_all lo (length x) run.ids p (map (λ i. (local_peak_of y x t i).apex) (searched e y x t)) first

-- the one list, or the other where that is empty
unfoldable pub or_else : {A : Type 0} → List A → List A → List A
or_else [] others = others
or_else (p ∷ ps) others = p ∷ ps

-- what a way leads to: nothing, the fallback's peak, or those of the search, and the fallback's where it lists none
unfoldable pub by_way : Way → List RtPeak1D → List RtPeak1D → List RtPeak1D
by_way AllZero fallen found = []
by_way TooShort fallen found = fallen
by_way Smoothed fallen found = or_else found fallen

-- of p over the frames lo to hi
unfoldable pub peaks_over : Run → RtExpandParams → List Float → ImPeak1D → ℕ → ℕ → ℕ → List RtPeak1D
peaks_over run e ws p lo hi first =
    let x = trace_over run.index run.scale e.bin_pad p lo hi in
    by_way (way_of x e.fallback_if_frames_lt)
    (fallback_peaks x lo run.ids run.times p e.fallback_frac_width first)
    (searched_peaks run e ws p lo hi x first)

unfoldable pub peaks_in : Run → RtExpandParams → List Float → ImPeak1D → ℕ → Option Frames → List RtPeak1D
peaks_in run e ws p first None = []
peaks_in run e ws p first (Some w) = peaks_over run e ws p w.lo w.hi first

-- ---- over the run

-- the padded frame window of p
abbrev pub window_in : Run → RtExpandParams → ImPeak1D → Option Frames
window_in run e p = padded_window run.ids p.frame_id_lo p.frame_id_hi e.rt_pad_frames

-- the retention peaks of p, with identities from `first` on
unfoldable pub expanded : Run → RtExpandParams → List Float → ImPeak1D → ℕ → List RtPeak1D
expanded run e ws p first = peaks_in run e ws p first (window_in run e p)
