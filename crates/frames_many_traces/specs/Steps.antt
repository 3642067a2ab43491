-- What the steps of many traces leave in lent lists.
use Rattle.std.specs.Prelude.{◌≡◌, List, ℕ, ◌+◌, ◌*◌, ◌<◌, length, get_or, drop, Float}
use Rattle.numeric.specs.Arith.{at}
use Rattle.frames_sums.specs.declared.inner.Window.{Window}

-- ---- windows as words, four each

abbrev pub window_at : List ℕ → ℕ → Window
window_at ws k =
    record { bin_lo = get_or ws (4 * k) 0; bin_hi = get_or ws (4 * k + 1) 0; scan_lo = get_or ws (4 * k + 2) 0; scan_hi = get_or ws (4 * k + 3) 0 }

-- a window was written to place k
pub record Kept (k : ℕ) (w : Window) (old new : List ℕ) : Type 0 where
  pub size : length new ≡ length old
  pub here : window_at new k ≡ w
  pub front : (i : ℕ) → i < 4 * k → get_or new i 0 ≡ get_or old i 0
  pub rest : drop (4 * k + 4) new ≡ drop (4 * k + 4) old

-- one was written for each of the first n places
pub record Noted (w : ℕ → Window) (n : ℕ) (old new : List ℕ) : Type 0 where
  pub size : length new ≡ length old
  pub here : (k : ℕ) → k < n → window_at new k ≡ w k
  pub rest : drop (4 * n) new ≡ drop (4 * n) old

-- ---- n lists of m places each, one after another

-- the f-th place of each holds its value, and all others what they held
pub record Column (value : ℕ → Float) (n m f : ℕ) (old new : List Float) : Type 0 where
  pub size : length new ≡ length old
  pub here : (k : ℕ) → k < n → at new (k * m + f) ≡ value k
  pub others : (i : ℕ) → ((k : ℕ) → k < n → i ≡ k * m + f → ⊥) → at new i ≡ at old i
  pub rest : drop (n * m) new ≡ drop (n * m) old

-- the first f places of each hold their values
pub record Columns (value : ℕ → ℕ → Float) (n m f : ℕ) (old new : List Float) : Type 0 where
  pub size : length new ≡ length old
  pub here : (k g : ℕ) → k < n → g < f → at new (k * m + g) ≡ value k g
  pub rest : drop (n * m) new ≡ drop (n * m) old
