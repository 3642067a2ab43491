-- The steps of detection over a grid: what they ask of their arguments, and what they leave.
use Rattle.std.specs.Prelude.{◌≡◌, true, List, ◌++◌, ℕ, ◌+◌, ◌-◌, ◌*◌, ◌≤◌, ◌<◌, length, drop, Float}
use Rattle.limits.specs.Limits.{max_reading, identities, exact_index}
use Rattle.numeric.specs.Numeric.{all_in_range}
use Rattle.row_record.specs.Record.{size}
use Rattle.row_params.specs.Params.{most_peaks}
use Rattle.row_params.specs.declared.ImDetectParams.{ImDetectParams}
use Rattle.row_params.specs.declared.RowPlace.{RowPlace}
use Rattle.row_params.specs.declared.FrameBounds.{FrameBounds}
use Rattle.row_search.specs.Qualifying.{kept}
use Rattle.row_smoothed.specs.SmoothRow.{searched, sound_or_none}
use Rattle.row_smoothed.specs.SmoothRow as smooth
use Rattle.row.specs.Row.{row_words}
use Rattle.row.specs.Written.{Written, stride}
use Rattle.row.specs.Steps as row
use Rattle.tof_scale.specs.Tof.{Sound}
use Rattle.tof_scale.specs.declared.TofScale.{TofScale}
use Rattle.grid_rows.specs.declared.call.GridCall.{GridCall}
use Rattle.grid_rows.specs.Grid.{Grid, used_of, listed_in, words_in, count_from, words_from}

-- the grid of some lists, and of a call's arguments with weights
abbrev pub grid_of : ℕ → List Float → List ℕ → TofScale → FrameBounds → List Float → ImDetectParams → List Float → ℕ → Grid
grid_of cols used scans scale bounds mobility p weights first =
    record {
      cols = cols;
      used = used;
      scans = scans;
      scale = scale;
      bounds = bounds;
      mobility = mobility;
      params = p;
      weights = weights;
      first = first;
    }

abbrev pub call_grid : ℕ → List Float → List Float → List ℕ → TofScale → FrameBounds → List Float → ImDetectParams → List Float → ℕ → Grid
call_grid cols raw smooth scans scale bounds mobility p weights first =
    grid_of cols (used_of raw smooth) scans scale bounds mobility p weights first

abbrev pub grid_in : GridCall → List Float → Grid
grid_in c weights =
    call_grid c.terms.cols c.raw.now c.smooth.now c.scans.now c.terms.scale c.terms.bounds c.mobility.now c.terms.params weights c.terms.first

-- the same grid with weights
abbrev pub with_weights : List Float → Grid → Grid
with_weights weights g = grid_of g.cols g.used g.scans g.scale g.bounds g.mobility g.params weights g.first

-- ---- one row

-- row r of a grid can be read: its readings, and its bin, are there
pub record Held (g : Grid) (r : ℕ) : Type 0 where
  pub readings : r * g.cols + g.cols ≤ length g.used
  pub ranged : all_in_range max_reading g.used ≡ true
  pub scale : Sound g.scale
  pub bin : r < g.scale.num_bins

-- A row z that is handed in: what its search asks, and what writing its records asks, with room for so many words.
pub record Handed (z : List Float) (axis : List ℕ) (weights : List Float) (first room scratch samples : ℕ) : Type 0 where
  pub search : smooth.Handed z weights scratch samples
  pub row : row.Writable z z axis first room

-- what is left of a row z of which n peaks are listed; `out₀` is what was lent
pub record RowPut {T : Type 0} (w : Written T) (place : RowPlace) (bounds : FrameBounds) (mobility : List Float) (p : ImDetectParams) (axis : List ℕ) (weights z : List Float) (first : ℕ) (out₀ out : List T) (n : ℕ) : Type 0 where
  pub count : n ≡ length (kept p (searched weights z) z)
  pub words : out ≡ w.put (row_words place bounds mobility axis (searched weights z) z first (kept p (searched weights z) z)) ++ drop (n * stride w) out₀

-- row r of a grid can be searched: the readings, the bin, room for the words of its peaks and identities are there
pub record RowReady (g : Grid) (r room : ℕ) : Type 0 where
  pub readings : r * g.cols + g.cols ≤ length g.used
  pub ranged : all_in_range max_reading g.used ≡ true
  pub scans : length g.scans ≡ g.cols
  pub short : g.cols ≤ exact_index
  pub scale : Sound g.scale
  pub bin : r < g.scale.num_bins
  pub weighed : sound_or_none g.weights ≡ true
  pub words : most_peaks g.cols * size ≤ room
  pub ids : g.first + most_peaks g.cols ≤ identities

-- what is left of row r, of which n peaks are listed
pub record RowDone {T : Type 0} (w : Written T) (g : Grid) (r : ℕ) (out₀ out : List T) (n : ℕ) : Type 0 where
  pub count : n ≡ length (listed_in g r)
  pub words : out ≡ w.put (words_in g r g.first) ++ drop (n * stride w) out₀

-- ---- some rows

-- the same grid with another first identity
abbrev pub numbered : Grid → ℕ → Grid
numbered g first =
    grid_of g.cols g.used g.scans g.scale g.bounds g.mobility g.params g.weights first

-- the rows from `from` to `to`, without it, can be searched: readings, bins, room for words and identities are there for all of them
pub record Ready (g : Grid) (from to room : ℕ) : Type 0 where
  pub readings : to * g.cols ≤ length g.used
  pub ranged : all_in_range max_reading g.used ≡ true
  pub scans : length g.scans ≡ g.cols
  pub short : g.cols ≤ exact_index
  pub scale : Sound g.scale
  pub bins : to ≤ g.scale.num_bins
  pub weighed : sound_or_none g.weights ≡ true
  pub words : (to - from) * most_peaks g.cols * size ≤ room
  pub ids : g.first + (to - from) * most_peaks g.cols ≤ identities

-- what is left of those rows, of which n peaks are listed
pub record Done {T : Type 0} (w : Written T) (g : Grid) (from to : ℕ) (out₀ out : List T) (n : ℕ) : Type 0 where
  pub count : n ≡ count_from g from (to - from)
  pub words : out ≡ w.put (words_from g from (to - from)) ++ drop (n * stride w) out₀
