-- The windows that retention traces are taken by: bins, and some more on either side.
use Rattle.std.specs.Prelude.{ℕ, ◌+◌, ◌-◌}
use Rattle.row_record.specs.declared.ImPeak1D.{ImPeak1D}
use Rattle.tof_scale.specs.declared.TofScale.{TofScale}
use Rattle.tof_scale.specs.Tof.{window_bins}
use Rattle.frames_sums.specs.declared.inner.Window.{Window}
use Rattle.frames_windows.specs.declared.inner.PaddedRow.{PaddedRow}

-- the bins from lo to hi and `pad` more on either side, none below bin 0, with scans from s to t; bins past those of the scale are in
-- the window like others
abbrev pub padded_bins : ℕ → ℕ → ℕ → ℕ → ℕ → Window
padded_bins lo hi pad s t = record { bin_lo = lo - pad; bin_hi = hi + pad; scan_lo = s; scan_hi = t }

-- those around a TOF row
abbrev pub row_window : PaddedRow → Window
row_window r = padded_bins r.row r.row r.pad r.scan_lo r.scan_hi

-- the bins of TOF bounds, which may come in either order, padded
unfoldable pub bounds_window : TofScale → ℕ → ℕ → ℕ → ℕ → ℕ → Window
bounds_window scale a b pad s t = let bins = window_bins scale a b in padded_bins bins.lo bins.hi pad s t

-- of a mobility peak: by its TOF bounds and its absolute scans
abbrev pub peak_window : TofScale → ℕ → ImPeak1D → Window
peak_window scale pad p = bounds_window scale p.tof_lo p.tof_hi pad p.left_abs p.right_abs
