-- What document 01 asks of detection's parameters, of scan axes and of identities.
use Rattle.std.specs.Prelude.{Bool, true, ◌&&◌, ◌||◌, List, [], ◌∷◌, ℕ, ◌+◌, ◌-◌, ◌/◌, leb, ltb, eqb, length, drop, Float}
use Rattle.std.specs.List.{fold, zip}
use Rattle.limits.specs.Limits.{max_height, max_count, last_frame, max_tof_bound, identities}
use Rattle.numeric.specs.Numeric.{in_range}
use Rattle.row_params.specs.declared.ImDetectParams.{ImDetectParams}
use Rattle.row_params.specs.declared.RowPlace.{RowPlace}
use Rattle.row_params.specs.declared.FrameBounds.{FrameBounds}

-- the peaks that a row of n samples can have: candidates are never neighbours
abbrev pub most_peaks : ℕ → ℕ
most_peaks n = (n - 1) / 2

-- a table with a value for each of n samples, or an empty one, which means none
abbrev pub lent_or_empty : ℕ → List Float → Bool
lent_or_empty n table = eqb (length table) 0 || eqb (length table) n

-- the floor from 0 to 2^33; distance and width to 65,535
unfoldable pub sound_params : ImDetectParams → Bool
sound_params p = in_range max_height p.min_prom && leb p.min_distance_scans max_count && leb p.min_width_scans max_count

-- frames and frame numbers not reversed; frames to 16,383
unfoldable pub sound_bounds : FrameBounds → Bool
sound_bounds f = leb f.rt_lo f.rt_hi && leb f.rt_hi last_frame && leb f.frame_id_lo f.frame_id_hi

-- the TOF bounds and the centre of a row to 4,259,839
unfoldable pub sound_tof : RowPlace → Bool
sound_tof r = leb r.tof_center max_tof_bound && leb r.tof_lo max_tof_bound && leb r.tof_hi max_tof_bound

-- identities from the first on, one for each peak that the sizes allow, none past 2^32 - 1
abbrev pub enough_ids : ℕ → ℕ → Bool
enough_ids first peaks = leb (first + peaks) identities

-- a test holds of each value and the next
abbrev pub all_neighbours : {A : Type 0} → (A → A → Bool) → List A → Bool
all_neighbours says l = fold (λ (all : Bool) (p : _ × _). all && says p.0 p.1) true (zip l (drop 1 l))

-- a scan axis: none above a limit, and strictly rising
unfoldable pub all_up_to : ℕ → List ℕ → Bool
all_up_to limit [] = true
all_up_to limit (s ∷ ss) = leb s limit && all_up_to limit ss

unfoldable pub rising_from : ℕ → List ℕ → Bool
rising_from s [] = true
rising_from s (t ∷ ts) = ltb s t && rising_from t ts

unfoldable pub rising : List ℕ → Bool
rising [] = true
rising (s ∷ ss) = rising_from s ss
