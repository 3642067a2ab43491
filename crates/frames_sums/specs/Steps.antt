-- What the steps of a sum ask of an index and find in it.
use Rattle.std.specs.Prelude.{◌≡◌, cond, List, ℕ, ◌-◌, ◌≤◌, ◌<◌, get_or, Float}
use Rattle.std.specs.List.{fold}
use Rattle.numeric.specs.Arith.{◌⊕◌}
pub use Rattle.frames_index.specs.FrameIndex.{index_of, Checked}
use Rattle.frames_index.specs.FrameIndex.{Index, points}
use Rattle.frames_sums.specs.declared.inner.Window.{Window}
use Rattle.frames_sums.specs.declared.inner.Span.{Span}
use Rattle.frames_sums.specs.Sums.{in_scans, add_points, add_frame}

-- bins from a place up to another rise
abbrev pub Rising : List ℕ → ℕ → ℕ → Type 0
Rising bins from to = (j k : ℕ) → from ≤ j → j < k → k < to → get_or bins j 0 < get_or bins k 0

-- r is the first place, of those from a place up to another, whose bin is x at least, or the latter where there is none
pub record FirstAt (bins : List ℕ) (from to x r : ℕ) : Type 0 where
  pub after : from ≤ r
  pub before : r ≤ to
  pub low : (j : ℕ) → from ≤ j → j < r → get_or bins j 0 < x
  pub high : (j : ℕ) → r ≤ j → j < to → x ≤ get_or bins j 0

-- of points side by side, each a scan and a reading, the readings whose scans lie in the window, added to `so` one by one
abbrev pub add_each : Window → Float → List (ℕ × Float) → Float
add_each w so points = fold (λ (sum : Float) (p : ℕ × Float). cond (in_scans w p.0) (sum ⊕ p.1) sum) so points

-- a window's bins with other scans
abbrev pub with_scans : Window → ℕ → ℕ → Window
with_scans w lo hi = record { bin_lo = w.bin_lo; bin_hi = w.bin_hi; scan_lo = lo; scan_hi = hi }

-- the points of frame f whose bins lie in the window are those of the span: whatever the scans, their sum is the frame's
pub record PointsOf (ix : Index) (w : Window) (f : ℕ) (p : Span) : Type 0 where
  pub order : p.from ≤ p.to
  pub most : p.to ≤ points ix
  pub sum : (lo hi : ℕ) (so : Float) → add_frame ix (with_scans w lo hi) f so ≡ add_points ix (with_scans w lo hi) (p.to - p.from) p.from so
