-- Sums over an index: the readings whose bin and scan lie in a window, added in the order of frame, bin and point.
use Rattle.std.specs.Prelude.{Bool, cond, ◌&&◌, List, map, ℕ, zero, suc, ◌+◌, ◌-◌, leb, get_or, Float}
use Rattle.numeric.specs.Arith.{◌⊕◌, 𝟎, at}
use Rattle.sort_digits.specs.Sorted.{up_to}
use Rattle.frames_index.specs.FrameIndex.{Index}
use Rattle.frames_sums.specs.declared.inner.Window.{Window}

-- a bin and a scan within the window, ends included; a reversed window has none
abbrev pub in_bins : Window → ℕ → Bool
in_bins w b = leb w.bin_lo b && leb b w.bin_hi

abbrev pub in_scans : Window → ℕ → Bool
in_scans w s = leb w.scan_lo s && leb s w.scan_hi

-- the readings of n points from place a on whose scans lie in the window, added to `so` one by one
unfoldable pub add_points : Index → Window → ℕ → ℕ → Float → Float
add_points ix w zero a so = so
add_points ix w (suc n) a so = add_points ix w n (a + 1) (cond (in_scans w (get_or ix.scans a 0)) (so ⊕ at ix.readings a) so)

-- those of the points of n bins from place i on, of the bins that lie in the window
unfoldable pub add_bins : Index → Window → ℕ → ℕ → Float → Float
add_bins ix w zero i so = so
add_bins ix w (suc n) i so =
    let from = get_or ix.offsets i 0 in
    let to = get_or ix.offsets (i + 1) 0 in
    add_bins ix w n (i + 1) (cond (in_bins w (get_or ix.bins i 0)) (add_points ix w (to - from) from so) so)

-- those of frame f
unfoldable pub add_frame : Index → Window → ℕ → Float → Float
add_frame ix w f so =
    let from = get_or ix.starts f 0 in
    let to = get_or ix.starts (f + 1) 0 in
    add_bins ix w (to - from) from so

-- those of n frames from f on
unfoldable pub add_frames : Index → Window → ℕ → ℕ → Float → Float
add_frames ix w zero f so = so
add_frames ix w (suc n) f so = add_frames ix w n (f + 1) (add_frame ix w f so)

-- ---- along retention time: a sum for each of n frames from f on

unfoldable pub frame_sums : Index → Window → ℕ → ℕ → List Float
frame_sums ix w f n = map (λ k. add_frame ix w (f + k) 𝟎) (up_to n)

-- ---- along mobility: a sum for each scan of the window, over n frames from f on

-- the window with one scan alone
abbrev pub at_scan : Window → ℕ → Window
at_scan w s = record { bin_lo = w.bin_lo; bin_hi = w.bin_hi; scan_lo = s; scan_hi = s }

unfoldable pub scan_sums : Index → Window → ℕ → ℕ → List Float
scan_sums ix w f n = map (λ k. add_frames ix (at_scan w (w.scan_lo + k)) n f 𝟎) (up_to (w.scan_hi + 1 - w.scan_lo))
