-- The steps of the entry: what they ask of their arguments.
use Rattle.std.specs.Prelude.{◌≡◌, true, List, ◌++◌, map, ℕ, ◌*◌, ◌≤◌, ◌<◌, length, get_or, drop, Float}
use Rattle.limits.specs.Limits.{any_number, exact_index}
use Rattle.numeric.specs.Numeric.{all_in_range}
use Rattle.row_params.specs.Params.{most_peaks}
use Rattle.rt_record.specs.RtRecord.{local_size}
use Rattle.rt_record.specs.declared.RtLocalPeak.{RtLocalPeak}
use Rattle.rt_apex.specs.InTime.{local_peak_of}
use Rattle.rt_listing.specs.Places.{index_at}
use Rattle.rt_search.specs.Retention.{rt_peaks}
use Rattle.rt_search.specs.Steps.{Stands}
use Rattle.rt_search.specs.declared.inner.Sought.{Sought}
use Rattle.rt_peaks.specs.Trace.{peak_words}

-- the peaks at some places of what was found
abbrev pub peaks_at : List Float → List Float → List Float → List ℕ → List ℕ → List RtLocalPeak
peaks_at y z t found ps = map (λ p. local_peak_of y z t (index_at found p)) ps

-- The first n of an order are places of apexes of the trace, and there is room for their records.
pub record Writable (y z t : List Float) (found order : List ℕ) (n room : ℕ) : Type 0 where
  pub stand : (k : ℕ) → k < n → Stands y z found (get_or order k 0)
  pub places : n ≤ length order
  pub words : n * local_size ≤ room
  pub raw : length z ≡ length y
  pub times : length t ≡ length y
  pub short : length y ≤ exact_index

-- A trace that can be searched, with an order and a list of these lengths.
pub record Checked (y z t : List Float) (order room : ℕ) : Type 0 where
  pub numbers : all_in_range any_number y ≡ true
  pub raw : length z ≡ length y
  pub times : length t ≡ length y
  pub order-long : most_peaks (length y) ≤ order
  pub words : most_peaks (length y) * local_size ≤ room

-- The records of the peaks of a trace stand at the front of a list, and as many peaks as is answered there are.
pub record Listed (asked : Sought) (y z t : List Float) (old new : List ℕ) (n : ℕ) : Type 0 where
  pub count : n ≡ length (rt_peaks asked.floor asked.sep asked.min_width y z t)
  pub front : new ≡ peak_words (rt_peaks asked.floor asked.sep asked.min_width y z t) ++ drop (n * local_size) old
