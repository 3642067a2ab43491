-- Which apexes of a retention trace are listed, and in which order: y is the smoothed trace, z the raw one, t the times, one a
-- frame. An apex is the index of its frame.
use Rattle.std.specs.Prelude.{Bool, not, List, map, ℕ, ltb, Float}
use Rattle.std.specs.Float.Ieee.{lt}
use Rattle.numeric.specs.Arith.{at}
use Rattle.numeric.specs.Plain.{word}
use Rattle.row_params.specs.declared.ImDetectParams.{ImDetectParams}
use Rattle.row_search.specs.Qualifying.{qualifying}
use Rattle.rt_record.specs.declared.RtLocalPeak.{RtLocalPeak}
use Rattle.rt_apex.specs.InTime.{apex_time, seconds, apex_area, local_peak_of}
use Rattle.rt_choice.specs.Chosen.{chosen, passing}
use Rattle.rt_choice.specs.Ranking.{before, ordered_by}
use Rattle.rt_choice.specs.Times.{near_in_time}
use Rattle.rt_listing.specs.Shares.{trace_area, best_area, meets_shares}

-- ---- qualifying apexes

-- what is asked of the row level: its floor, no distance between apexes and no width in samples
abbrev pub asks : Float → ImDetectParams
asks floor = record { min_prom = floor; min_distance_scans = 0; min_width_scans = 0 }

-- an apex whose width in seconds is not below the least width
unfoldable pub is_wide : Float → List Float → List Float → ℕ → Bool
is_wide min_width y t i = not (lt (seconds y t i).width min_width)

-- The qualifying retention apexes (document 01), ascending: candidates of a trace whose raw maximum reaches the floor, with a prominence
-- that reaches it and a width in seconds that reaches the least width. The floor is the effective threshold.
unfoldable pub rt_qualifying : Float → Float → List Float → List Float → List Float → List ℕ
rt_qualifying floor min_width y z t = passing (is_wide min_width y t) (qualifying (asks floor) y z)

-- ---- two orders, each in one place

-- i is lower than j
abbrev pub lower : List Float → ℕ → ℕ → Bool
lower y i j = lt (at y i) (at y j)

-- the lower index first
abbrev pub by_index : ℕ → ℕ → Bool
by_index i j = ltb i j

-- The order of the choice: the higher apex first, and of equal ones the lower index.
unfoldable pub higher_first : List Float → ℕ → ℕ → Bool
higher_first y = before (lower y) by_index

-- i is reached later than j. Times are not negative, so their bit patterns order like the times.
abbrev pub later : List Float → List Float → ℕ → ℕ → Bool
later y t i j = ltb (word (apex_time y t j)) (word (apex_time y t i))

-- The final order: the earlier time first, and of equal times the one that comes first in the choice.
unfoldable pub earlier_first : List Float → List Float → ℕ → ℕ → Bool
earlier_first y t = before (later y t) (higher_first y)

-- ---- chosen apexes

-- by falling height, each that lies no closer in time than the least separation to one chosen before
unfoldable pub chosen_apexes : Float → Float → Float → List Float → List Float → List Float → List ℕ
chosen_apexes floor sep min_width y z t = chosen (near_in_time (apex_time y t) sep) (ordered_by (higher_first y) (rt_qualifying floor min_width y z t))

-- ---- shares

-- an apex whose area meets both; cs are the chosen ones
abbrev pub has_shares : List Float → List Float → List ℕ → ℕ → Bool
has_shares y z cs i = meets_shares (trace_area z) (best_area (apex_area y z) cs) (apex_area y z i)

-- ---- listed apexes

-- the chosen ones that meet both shares, in the final order
unfoldable pub listed_apexes : Float → Float → Float → List Float → List Float → List Float → List ℕ
listed_apexes floor sep min_width y z t =
    let cs = chosen_apexes floor sep min_width y z t in ordered_by (earlier_first y t) (passing (has_shares y z cs) cs)

-- Their peaks. There are none where the trace has fewer than 3 frames, or where its raw maximum does not reach the floor (rt_laws/specs/RtAccount.antt).
unfoldable pub rt_peaks : Float → Float → Float → List Float → List Float → List Float → List RtLocalPeak
rt_peaks floor sep min_width y z t = map (local_peak_of y z t) (listed_apexes floor sep min_width y z t)
