-- A frame index as it is lent: the points of all frames of a run, frame after frame, within a frame by bin.
use Rattle.std.specs.Prelude.{◌≡◌, Bool, true, false, ◌&&◌, ◌||◌, List, [], ◌∷◌, ℕ, ◌+◌, ◌-◌, leb, ltb, eqb, length, take, drop, Float}
use Rattle.limits.specs.Limits.{max_frames, max_points, max_scan, last_row}
use Rattle.numeric.specs.Numeric.{all_in_range}
use Rattle.row_params.specs.Params.{all_up_to, rising}
use Rattle.frames_index.specs.declared.inner.Seen.{Seen}

-- `starts` has for each frame the place of its first bin among `bins`, and behind the last frame the count of bins. `offsets` has for each
-- place of `bins` the place of that bin's first point, and behind the last one the count of points. `scans` and `readings` have the
-- absolute scan and the reading of each point.
pub record Index : Type 0 where
  pub starts : List ℕ
  pub bins : List ℕ
  pub offsets : List ℕ
  pub scans : List ℕ
  pub readings : List Float

abbrev pub index_of : List ℕ → List ℕ → List ℕ → List ℕ → List Float → Index
index_of starts bins offsets scans readings = record { starts = starts; bins = bins; offsets = offsets; scans = scans; readings = readings }

abbrev pub frames : Index → ℕ
frames ix = length ix.starts - 1

abbrev pub points : Index → ℕ
points ix = length ix.scans

-- ---- number 1: lengths that agree; there is a start at least

abbrev pub agreeing : Index → Bool
agreeing ix = ltb 0 (length ix.starts) && eqb (length ix.offsets) (length ix.bins + 1) && eqb (length ix.scans) (length ix.readings)

-- ---- number 2: frames to 16,384, points and bins to 16,777,216

abbrev pub too_large : Index → Bool
too_large ix = ltb max_frames (frames ix) || ltb max_points (points ix) || ltb max_points (length ix.bins)

-- ---- number 23

-- from s on never falling, and n last
unfoldable pub climbs_from : ℕ → ℕ → List ℕ → Bool
climbs_from n s [] = eqb s n
climbs_from n s (t ∷ ts) = leb s t && climbs_from n t ts

-- 0 first, never falling, n last
unfoldable pub climbs_to : ℕ → List ℕ → Bool
climbs_to n [] = false
climbs_to n (s ∷ ss) = eqb s 0 && climbs_from n s ss

-- the bins of the frame that starts at place s, whose next starts at place t
abbrev pub bins_between : List ℕ → ℕ → ℕ → List ℕ
bins_between bins s t = take (t - s) (drop s bins)

-- bins rise strictly within each frame
unfoldable pub frames_rise_from : List ℕ → ℕ → List ℕ → Bool
frames_rise_from bins s [] = true
frames_rise_from bins s (t ∷ ts) = rising (bins_between bins s t) && frames_rise_from bins t ts

unfoldable pub frames_rise : List ℕ → List ℕ → Bool
frames_rise bins [] = true
frames_rise bins (s ∷ ss) = frames_rise_from bins s ss

-- starts and offsets run from 0 to the counts of bins and of points and never fall; bins go to 4,194,303 and rise within a frame
unfoldable pub sound_lists : List ℕ → List ℕ → List ℕ → ℕ → Bool
sound_lists starts bins offsets points =
    climbs_to (length bins) starts && climbs_to points offsets && all_up_to last_row bins && frames_rise bins starts

abbrev pub sound_index : Index → Bool
sound_index ix = sound_lists ix.starts ix.bins ix.offsets (points ix)

-- an index that numbers 1 and 23 do not refuse
pub record Checked (ix : Index) : Type 0 where
  pub sound : sound_index ix ≡ true
  pub offsets : length ix.offsets ≡ length ix.bins + 1
  pub readings : length ix.readings ≡ length ix.scans

-- ---- what the numbers go by

-- What reading an index shows, with the highest pattern of a reading.
unfoldable pub seen_in : ℕ → Index → Seen
seen_in limit ix =
    record {
      agreeing = agreeing ix;
      too_large = too_large ix;
      readings = all_in_range limit ix.readings;
      scans = all_up_to max_scan ix.scans;
      sound = sound_index ix;
    }
