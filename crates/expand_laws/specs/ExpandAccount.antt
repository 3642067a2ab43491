-- What may be relied on in the retention peaks of a mobility peak, said of the words handed back.
use Rattle.std.specs.Prelude.{Some, None, Ok, ◌≡◌, false, List, ◌⊎◌, ◌↔◌, ℕ, ◌+◌, ◌-◌, ◌*◌, ◌≤◌, ◌<◌, min, max, length, get_or, Float}
use Rattle.numeric.specs.Plain.{AllFit}
use Rattle.row_smoothing.specs.Smoothing.{smoothed}
use Rattle.row_record.specs.Record.{peak_at}
use Rattle.row_record.specs.declared.ImPeak1D.{ImPeak1D}
use Rattle.rt_params.specs.declared.RtExpandParams.{RtExpandParams}
use Rattle.rt_record.specs.RtRecord.{rt_size, rt_peak_at}
use Rattle.rt_record.specs.declared.RtPeak1D.{RtPeak1D}
use Rattle.expand_placed.specs.PlacedLaws.{PeakInFrames}
use Rattle.row_search.specs.Account.{◌∈◌}
use Rattle.rt_search.specs.Retention.{rt_qualifying, chosen_apexes, has_shares}
use Rattle.rt_apex.specs.InTime.{apex_time}
use Rattle.rt_laws.specs.RtAccount.{YieldsTo, RtAccounted}
use Rattle.rt_laws.specs.TimesInOrder.{InTime}
use Rattle.expand_window.specs.Window.{cut}
use Rattle.expand_trace.specs.Trace.{trace_over, any_above}
use Rattle.expand_peak.specs.Expanded.{Run, window_in, floor_of, searched}
use Rattle.expand_many.specs.Many.{Many, sum_to, weights_at}
use Rattle.expand.specs.ExpandCall.{Lent, OneAnswered, peaks_in, ManyAnswered}

-- ---- the trace of a mobility peak over the frames lo to hi: raw, smoothed, and its times

abbrev pub raw_over : Run → RtExpandParams → ImPeak1D → ℕ → ℕ → List Float
raw_over run e p lo hi = trace_over run.index run.scale e.bin_pad p lo hi

abbrev pub smooth_over : Run → RtExpandParams → List Float → ImPeak1D → ℕ → ℕ → List Float
smooth_over run e ws p lo hi = smoothed ws (raw_over run e p lo hi)

abbrev pub times_over : Run → ℕ → ℕ → List Float
times_over run lo hi = cut lo hi run.times

-- the listed apexes of that trace, by their places in it
abbrev pub listed_over : Run → RtExpandParams → List Float → ImPeak1D → ℕ → ℕ → List ℕ
listed_over run e ws p lo hi = searched e (smooth_over run e ws p lo hi) (raw_over run e p lo hi) (times_over run lo hi)

-- The path is ordinary (document 01): the peak has the padded frame window lo to hi, which has not fewer frames than the fallback's limit, and
-- an apex is listed. That a trace has a reading above 0 is not asked: where it has none, no apex qualifies (`none-above` below).
pub record Ordinary (run : Run) (e : RtExpandParams) (ws : List Float) (p : ImPeak1D) (lo hi : ℕ) : Type 0 where
  pub window : Some (record { lo = lo; hi = hi }) ≡ window_in run e p
  pub long : e.fallback_if_frames_lt ≤ hi + 1 - lo
  pub some : 0 < length (listed_over run e ws p lo hi)

-- ---- the records of a mobility peak: `count` of a list of words, from place `from` on

-- the apex frame that record k of a list of words bears
abbrev pub apex_frame : List ℕ → ℕ → ℕ
apex_frame out k = (rt_peak_at out k).apex.rt_idx

-- an apex of the trace is listed where one of these records bears its frame as the apex frame
pub record Borne (out : List ℕ) (from count frame : ℕ) : Type 0 where
  pub place : ℕ
  pub among : place < count
  pub bears : apex_frame out (from + place) ≡ frame

-- Apex and bounds of a record lie in the padded frame window lo to hi, and its frame numbers are those of its bounds, the lower first.
pub record InWindow (run : Run) (lo hi : ℕ) (r : RtPeak1D) : Type 0 where
  pub inside : PeakInFrames lo (hi + 1 - lo) r
  pub low-number : r.frame_id_lo ≡ min (get_or run.ids r.rt_lo 0) (get_or run.ids r.rt_hi 0)
  pub high-number : r.frame_id_hi ≡ max (get_or run.ids r.rt_lo 0) (get_or run.ids r.rt_hi 0)

-- its bounds enclose its apex
pub record Encloses (r : RtPeak1D) : Type 0 where
  pub low : r.rt_lo ≤ r.apex.rt_idx
  pub high : r.apex.rt_idx ≤ r.rt_hi

-- ---- the account

-- What holds of these records on the ordinary path.
pub record ExpandAccounted (run : Run) (e : RtExpandParams) (ws : List Float) (p : ImPeak1D) (lo hi from count : ℕ) (out : List ℕ) : Type 0 where
  -- record k of them bears the k-th listed apex
  pub counted : count ≡ length (listed_over run e ws p lo hi)
  pub frames : (k : ℕ) → k < count → apex_frame out (from + k) ≡ lo + get_or (listed_over run e ws p lo hi) k 0
  -- listed apexes qualify, none stands twice, and so on
  pub apexes : RtAccounted (floor_of e (smooth_over run e ws p lo hi)) e.min_sep_sec e.min_width_sec (smooth_over run e ws p lo hi) (raw_over run e p lo hi) (times_over run lo hi)
  -- a qualifying apex has no record exactly if another chosen one, no lower, lies closer in time than the least separation, or if it fails a share
  pub missing : (i : ℕ) → i ∈ rt_qualifying (floor_of e (smooth_over run e ws p lo hi)) e.min_width_sec (smooth_over run e ws p lo hi) (raw_over run e p lo hi) (times_over run lo hi)
      → (Borne out from count (lo + i) → ⊥)
      ↔ (YieldsTo (smooth_over run e ws p lo hi) (times_over run lo hi) e.min_sep_sec
      (chosen_apexes (floor_of e (smooth_over run e ws p lo hi)) e.min_sep_sec e.min_width_sec (smooth_over run e ws p lo hi) (raw_over run e p lo hi) (times_over run lo hi)) i
      ⊎ (has_shares (smooth_over run e ws p lo hi) (raw_over run e p lo hi)
      (chosen_apexes (floor_of e (smooth_over run e ws p lo hi)) e.min_sep_sec e.min_width_sec (smooth_over run e ws p lo hi) (raw_over run e p lo hi) (times_over run lo hi)) i ≡ false))
  -- Bounds enclose the apex. The readings and weights are binary32 values, as every f32 is; owning a slice of them does not tell it.
  pub ordered : AllFit run.index.readings → AllFit ws → (k : ℕ) → k < count → Encloses (rt_peak_at out (from + k))
  -- Each bears the apex time of its apex, and they stand by it. The times of the run are binary32 values too.
  pub times : AllFit run.index.readings → AllFit ws → AllFit run.times → (k : ℕ) → k < count
      → (rt_peak_at out (from + k)).apex.rt_sec ≡ apex_time (smooth_over run e ws p lo hi) (times_over run lo hi) (get_or (listed_over run e ws p lo hi) k 0)
  pub by-time : AllFit run.index.readings → AllFit ws → AllFit run.times → InTime (λ k. (rt_peak_at out (from + k)).apex.rt_sec) count

-- What holds of them on every path; `first` is the identity of the first of them.
pub record PeakAccounted (run : Run) (e : RtExpandParams) (ws : List Float) (p : ImPeak1D) (first from count : ℕ) (out : List ℕ) : Type 0 where
  -- all of them are there, so that nothing is read past an end
  pub records : (from + count) * rt_size ≤ length out
  -- their identities run on, and each names its mobility peak
  pub identities : (k : ℕ) → k < count → ((rt_peak_at out (from + k)).id ≡ first + k) × ((rt_peak_at out (from + k)).parent_im_id ≡ p.id)
  -- where there is no window there is no record
  pub none : None ≡ window_in run e p → count ≡ 0
  -- where there is one, all records lie in it; the bounds of the fallback's may stand reversed
  pub window : (lo hi : ℕ) → Some (record { lo = lo; hi = hi }) ≡ window_in run e p → (k : ℕ) → k < count → InWindow run lo hi (rt_peak_at out (from + k))
  pub ordinary : (lo hi : ℕ) → Ordinary run e ws p lo hi → ExpandAccounted run e ws p lo hi from count out
  -- where no reading of the trace is above 0 there is no record, and no apex qualifies
  pub none-above : (lo hi : ℕ) → Some (record { lo = lo; hi = hi }) ≡ window_in run e p → any_above (raw_over run e p lo hi) ≡ false
      → (count ≡ 0) × ((i : ℕ) → i ∈ rt_qualifying (floor_of e (smooth_over run e ws p lo hi)) e.min_width_sec (smooth_over run e ws p lo hi) (raw_over run e p lo hi) (times_over run lo hi) → ⊥)
  -- where the path is not the ordinary one, the fallback has one record at most
  pub fallback : (lo hi : ℕ) → Some (record { lo = lo; hi = hi }) ≡ window_in run e p → (Ordinary run e ws p lo hi → ⊥) → count ≤ 1

-- ---- what expansion's second call hands back, where it answers a count

-- for one mobility peak, whose records stand at the front: `one-accounted` in proofs/Calls.antt
abbrev pub OneAccounted : Type 0
OneAccounted =
    (run : Run) (e : RtExpandParams) (peak : List ℕ) (ws : List Float) (first : ℕ) (was is : Lent) (count : ℕ)
    → OneAnswered run e peak ws first was is (Ok count) → PeakAccounted run e ws (peak_at peak 0) first 0 count is.out

-- For many: the column has a count for each mobility peak; the records of the q-th begin behind those of the ones before it, and
-- there are no others. Identities run on over the whole list: that of the record at place k is m.first + k. `many-accounted`
pub record AllAccounted (m : Many) (total : ℕ) (counts out : List ℕ) : Type 0 where
  pub each : (q : ℕ) → q < peaks_in m
      → PeakAccounted m.run m.params (weights_at m q) (peak_at m.list q) (m.first + sum_to counts q) (sum_to counts q) (get_or counts q 0) out
  pub all : sum_to counts (peaks_in m) ≡ total

abbrev pub ManyAccounted : Type 0
ManyAccounted =
    (m : Many) (was is : Lent) (counts₀ counts : List ℕ) (total : ℕ) → ManyAnswered m was is counts₀ counts (Ok total)
    → AllAccounted m total counts is.out
