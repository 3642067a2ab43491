-- Worked cases, each by computation; they need not be read to know what is promised.
use Rattle.std.specs.Prelude.{◌≡◌, refl, [], ◌∷◌, ℕ}
use Rattle.tof_scale.specs.declared.TofScale.{TofScale}
use Rattle.tof_scale.specs.Tof.{window_bins}
use Rattle.frames_sums.specs.declared.inner.Window.{Window}
use Rattle.frames_windows.specs.Windows.{padded_bins, bounds_window}

abbrev window : ℕ → ℕ → ℕ → ℕ → Window
window a b s t = record { bin_lo = a; bin_hi = b; scan_lo = s; scan_hi = t }

-- eleven bins of four TOF values each from 4 on
abbrev scale : TofScale
scale = record { tof_min = 4; tof_max = 44; tof_step = 4; num_bins = 11 }

-- Around row 1, with a pad that would pass bin 0. By bounds 13 to 22: bins 2 to 4, one more on either side; the same reversed. Bounds past
-- the scale: the last bin, and two past it.
pub padded :
    padded_bins 1 1 3 5 9 ∷ bounds_window scale 13 22 1 7 8 ∷ bounds_window scale 22 13 1 7 8 ∷ bounds_window scale 50 60 2 9 3 ∷ []
    ≡ window 0 4 5 9 ∷ window 1 5 7 8 ∷ window 1 5 7 8 ∷ window 8 12 9 3 ∷ []
unfolding bounds_window window_bins
padded = refl
