-- What the steps of expansion ask, and what they leave.
use Rattle.std.specs.Prelude.{◌≡◌, true, List, map, ℕ, ◌+◌, ◌*◌, ◌≤◌, ◌<◌, length, get_or, Float}
use Rattle.limits.specs.Limits.{any_number, exact_index, max_weights, identities}
use Rattle.numeric.specs.Numeric.{all_in_range}
use Rattle.row_smoothing.specs.Smoothing.{smoothed}
use Rattle.row_params.specs.Params.{most_peaks}
use Rattle.row_record.specs.declared.ImPeak1D.{ImPeak1D}
use Rattle.rt_params.specs.declared.RtExpandParams.{RtExpandParams}
use Rattle.rt_record.specs.RtRecord.{rt_size}
use Rattle.rt_record.specs.declared.RtPeak1D.{RtPeak1D}
use Rattle.rt_apex.specs.InTime.{local_peak_of}
use Rattle.rt_search.specs.Steps.{Stands, RtSearchable}
use Rattle.expand_trace.specs.Trace.{way_of}
use Rattle.expand_trace.specs.FallbackPeaks.{placed_all, fallback_peaks}
use Rattle.expand_peak.specs.Expanded.{searched, by_way}

-- the retention peaks of the apexes at some indices of the trace with smoothed values y, raw values x and times t
abbrev pub placed_apexes : ℕ → List ℕ → ImPeak1D → List Float → List Float → List Float → List ℕ → ℕ → List RtPeak1D
placed_apexes lo ids p y x t is first = placed_all lo (length x) ids p (map (λ i. (local_peak_of y x t i).apex) is) first

-- those of the listed ones
abbrev pub apexes_of : RtExpandParams → ℕ → List ℕ → ImPeak1D → List Float → List Float → List Float → ℕ → List RtPeak1D
apexes_of e lo ids p y x t first = placed_apexes lo ids p y x t (searched e y x t) first

-- those of the way that a trace takes
abbrev pub followed : RtExpandParams → List Float → List ℕ → List Float → ImPeak1D → ℕ → List Float → List Float → ℕ → List RtPeak1D
followed e ws ids times p lo x t first =
    by_way (way_of x e.fallback_if_frames_lt)
    (fallback_peaks x lo ids times p e.fallback_frac_width first)
    (apexes_of e lo ids p (smoothed ws x) x t first)

-- apexes of an order that can be written, to a list of `out` words
pub record Listable (y x t : List Float) (found order : List ℕ) (lo : ℕ) (ids : List ℕ) (first out : ℕ) : Type 0 where
  pub raw : length x ≡ length y
  pub times : length t ≡ length y
  pub stand : (k : ℕ) → k < length order → Stands y x found (get_or order k 0)
  pub frames : lo + length y ≤ length ids
  pub short : length ids ≤ exact_index
  pub named : first + length order ≤ identities
  pub room : length order * rt_size ≤ out

-- a trace of the frames from lo on that can be searched, with scratch for so many samples
pub record Searchable (y x t : List Float) (lo : ℕ) (ids : List ℕ) (first out samples order : ℕ) : Type 0 where
  pub trace : RtSearchable y x t samples order
  pub frames : lo + length y ≤ length ids
  pub short : length ids ≤ exact_index
  pub named : first + most_peaks (length y) ≤ identities
  pub room : most_peaks (length y) * rt_size ≤ out

-- a trace that can be smoothed and searched
pub record Smoothable (x t : List Float) (ws : List Float) (lo : ℕ) (ids : List ℕ) (first out samples : ℕ) : Type 0 where
  pub numbers : all_in_range any_number (smoothed ws x) ≡ true
  pub few-weights : length ws ≤ max_weights
  pub cut : length t ≡ length x
  pub frames : lo + length x ≤ length ids
  pub short : length ids ≤ exact_index
  pub named : first + most_peaks (length x) ≤ identities
  pub room : most_peaks (length x) * rt_size ≤ out
  pub search : length x ≤ samples

-- and one that can be left to the fallback too
pub record Followable (x t : List Float) (ws : List Float) (lo : ℕ) (ids : List ℕ) (times : List Float) (first out samples : ℕ) : Type 0 where
  pub some : 0 < length x
  pub axis : length times ≡ length ids
  pub one : rt_size ≤ out
  pub search : Smoothable x t ws lo ids first out samples
