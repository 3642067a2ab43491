-- What is known of a merged peak: its bounds are the extremes of the members' bounds, its identity is the least of the members',
-- and extremes of extremes are the extremes of all the members.
use mathlib.Core.Path.{refl, ◌∙◌}
use mathlib.Core.List.{map}
use Prim.Native.Nat.{min, max}
use Rattle.stitch_peaks.proofs.Extremes.{extreme-groups, lowest-choice, highest-choice}
use Rattle.stitch_merging.specs.Merging.{merged}
use Rattle.stitch_merging.specs.MergingLaws.{tof, retention, frame, scan, absolute, low, high}
use Rattle.stitch_merging.specs.MergingLaws.{MergedLow, MergedHigh, MergedId, TwiceLow, TwiceHigh, TwiceId}

-- ---- the merged peak

-- Its bounds are the extremes of the members' bounds, and its identity is the least of theirs.
pub merged-low : MergedLow
unfolding merged low
merged-low tof ps = refl
merged-low retention ps = refl
merged-low frame ps = refl
merged-low scan ps = refl
merged-low absolute ps = refl

pub merged-high : MergedHigh
unfolding merged high
merged-high tof ps = refl
merged-high retention ps = refl
merged-high frame ps = refl
merged-high scan ps = refl
merged-high absolute ps = refl

pub merged-id : MergedId
unfolding merged
merged-id ps = refl

-- Of groups that are merged, and the merged peaks merged once more, it has the extremes and the least identity of all the members.
pub twice-low : TwiceLow
twice-low gs some b = merged-low b (map merged gs) ∙ extreme-groups min _ lowest-choice (low b) merged (merged-low b) gs some

pub twice-high : TwiceHigh
twice-high gs some b = merged-high b (map merged gs) ∙ extreme-groups max _ highest-choice (high b) merged (merged-high b) gs some

pub twice-id : TwiceId
twice-id gs some = merged-id (map merged gs) ∙ extreme-groups min _ lowest-choice (λ p. p.id) merged merged-id gs some
