-- Grids in bytes, and what the steps over their rows ask of their arguments.
use Rattle.std.specs.Prelude.{List, ℕ, ◌/◌, ◌≤◌}
use Rattle.limits.specs.Limits.{max_samples}
use Rattle.row_params.specs.declared.ImDetectParams.{ImDetectParams}
use Rattle.row_params.specs.declared.FrameBounds.{FrameBounds}
use Rattle.tof_scale.specs.declared.TofScale.{TofScale}
use Rattle.grid_rows.specs.Grid.{Grid}
use Rattle.grid_rows.specs.Steps.{grid_of, Ready}
use Rattle.grid_word_bytes.specs.Bytes.{words_of, floats_of}

-- the grid of lists in bytes
abbrev pub byte_grid : ℕ → List ℕ → List ℕ → TofScale → FrameBounds → List ℕ → ImDetectParams → List ℕ → ℕ → Grid
byte_grid cols used scans scale bounds mobility p weights first =
    grid_of cols (floats_of used) (words_of scans) scale bounds (floats_of mobility) p (floats_of weights) first

-- the rows from `from` to `to` can be searched, in lists for the longest rows; `room` is the length of the lent list, in bytes
pub record Fit (g : Grid) (from to room : ℕ) : Type 0 where
  pub ready : Ready g from to (room / 4)
  pub order : from ≤ to
  pub narrow : g.cols ≤ max_samples
