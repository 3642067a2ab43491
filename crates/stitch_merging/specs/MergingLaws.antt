-- What is known of a merged peak: its bounds are the extremes of the members' bounds, its identity is the least of the members', and
-- merging in two steps gives the extremes of all.
use Rattle.std.specs.Prelude.{◌≡◌, ℕ}
use mathlib.Core.List.{List, map, flatten}
use Rattle.row_record.specs.declared.ImPeak1D.{ImPeak1D}
use Rattle.stitch_peaks.specs.Extremes.{lowest_of, highest_of, AllAny}
use Rattle.stitch_merging.specs.Merging.{merged}

-- ---- the merged peak

-- the five pairs of bounds of a peak: in TOF, in retention frames and their identities, in scans and in absolute scans
pub data Bound : Type 0 where
  tof : Bound
  retention : Bound
  frame : Bound
  scan : Bound
  absolute : Bound

unfoldable pub low : Bound → ImPeak1D → ℕ
low tof p = p.tof_lo
low retention p = p.rt_lo
low frame p = p.frame_id_lo
low scan p = p.left
low absolute p = p.left_abs

unfoldable pub high : Bound → ImPeak1D → ℕ
high tof p = p.tof_hi
high retention p = p.rt_hi
high frame p = p.frame_id_hi
high scan p = p.right
high absolute p = p.right_abs

-- its low bounds are the lowest of the members': `merged-low` in proofs/MergingLaws.antt
abbrev pub MergedLow : Type 0
MergedLow = (b : Bound) (ps : List ImPeak1D) → low b (merged ps) ≡ lowest_of (low b) ps

-- its high bounds are the highest: `merged-high`
abbrev pub MergedHigh : Type 0
MergedHigh = (b : Bound) (ps : List ImPeak1D) → high b (merged ps) ≡ highest_of (high b) ps

-- its identity is the least: `merged-id`
abbrev pub MergedId : Type 0
MergedId = (ps : List ImPeak1D) → (merged ps).id ≡ lowest_of (λ p. p.id) ps

-- ---- groups that are merged, and the merged peaks merged once more

-- the low bounds are the lowest of all the members': `twice-low` in proofs/MergingLaws.antt
abbrev pub TwiceLow : Type 0
TwiceLow = (gs : List (List ImPeak1D)) → AllAny gs → (b : Bound) → low b (merged (map merged gs)) ≡ lowest_of (low b) (flatten gs)

-- the high bounds are the highest: `twice-high`
abbrev pub TwiceHigh : Type 0
TwiceHigh = (gs : List (List ImPeak1D)) → AllAny gs → (b : Bound) → high b (merged (map merged gs)) ≡ highest_of (high b) (flatten gs)

-- the identity is the least: `twice-id`
abbrev pub TwiceId : Type 0
TwiceId = (gs : List (List ImPeak1D)) → AllAny gs → (merged (map merged gs)).id ≡ lowest_of (λ p. p.id) (flatten gs)
