-- What the steps of the sums by scan do.
use Rattle.std.specs.Prelude.{◌≡◌, List, ℕ, ◌+◌, ◌-◌, ◌<◌, length, drop, Float}
use Rattle.numeric.specs.Arith.{at}
use Rattle.frames_sums.specs.declared.inner.Window.{Window}

-- the scans of a window
abbrev pub scans_of : Window → ℕ
scans_of w = w.scan_hi + 1 - w.scan_lo

-- each of the first m values has become what `step` makes of it, and those behind are as they were
pub record Stepped (step : ℕ → Float → Float) (m : ℕ) (old new : List Float) : Type 0 where
  pub size : length new ≡ length old
  pub front : (k : ℕ) → k < m → at new k ≡ step k (at old k)
  pub rest : drop m new ≡ drop m old
