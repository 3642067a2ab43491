-- The mobility peaks of all rows of a TOF grid.
use Rattle.std.specs.Prelude.{cond, List, [], ◌++◌, ℕ, zero, suc, ◌+◌, ◌*◌, eqb, length, take, drop, Float}
use Rattle.row_params.specs.declared.ImDetectParams.{ImDetectParams}
use Rattle.row_params.specs.declared.FrameBounds.{FrameBounds}
use Rattle.row_search.specs.Qualifying.{kept}
use Rattle.row_smoothed.specs.SmoothRow.{searched}
use Rattle.row.specs.Row.{row_words}
use Rattle.tof_scale.specs.Tof.{row_place}
use Rattle.tof_scale.specs.declared.TofScale.{TofScale}

-- the readings that are worked on: the raw ones where they are present, else the smoothed ones
abbrev pub used_of : List Float → List Float → List Float
used_of raw smooth = cond (eqb (length raw) 0) smooth raw

-- what detection is handed: the readings row after row, the scan of each column, the scale with a bin for each row, the frames
-- that were summed, the mobility of each column or none, parameters, weights (empty: no smoothing) and the first identity
pub record Grid : Type 0 where
  pub cols : ℕ
  pub used : List Float
  pub scans : List ℕ
  pub scale : TofScale
  pub bounds : FrameBounds
  pub mobility : List Float
  pub params : ImDetectParams
  pub weights : List Float
  pub first : ℕ

-- a row, and the row that is searched
abbrev pub row_of : Grid → ℕ → List Float
row_of g r = take g.cols (drop (r * g.cols) g.used)

abbrev pub searched_of : Grid → ℕ → List Float
searched_of g r = searched g.weights (row_of g r)

-- the apexes of a row that are listed, the newest first, and their words, with identities from `first` on
unfoldable pub listed_in : Grid → ℕ → List ℕ
listed_in g r = kept g.params (searched_of g r) (row_of g r)

abbrev pub words_in : Grid → ℕ → ℕ → List ℕ
words_in g r first =
    row_words (row_place g.scale r) g.bounds g.mobility g.scans (searched_of g r) (row_of g r) first (listed_in g r)

-- the peaks of k rows from `from` on: how many there are, and their words, with identities that run on
unfoldable pub count_from : Grid → ℕ → ℕ → ℕ
count_from g from zero = 0
count_from g from (suc k) = count_from g from k + length (listed_in g (from + k))

unfoldable pub words_from : Grid → ℕ → ℕ → List ℕ
words_from g from zero = []
words_from g from (suc k) = words_from g from k ++ words_in g (from + k) (g.first + count_from g from k)

-- those of the first rows
abbrev pub count_to : Grid → ℕ → ℕ
count_to g rows = count_from g 0 rows

abbrev pub words_to : Grid → ℕ → List ℕ
words_to g rows = words_from g 0 rows
