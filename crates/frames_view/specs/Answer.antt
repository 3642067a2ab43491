-- What is left of a frame's points, accepted or refused.
use Rattle.std.specs.Prelude.{◌≡◌, cond, List, ◌++◌, ℕ, ◌+◌, eqb, length, drop, Float, Result}
use Rattle.refusal.specs.Refusal.{Check, first_of}
use Rattle.refusal.specs.declared.Refusal.{Refusal}
use Rattle.refusal.specs.Answers.{answer_by}
use Rattle.refusal.specs.Numbered.{says}
use Rattle.limits.specs.Limits.{max_reading}
use Rattle.tof_scale.specs.declared.TofScale.{TofScale}
use Rattle.frames_bins.specs.declared.inner.Counts.{Counts}
use Rattle.frames_bins.specs.FrameBins.{point_bins, kept, view_bins, view_offsets, view_scans, view_readings}
use Rattle.frames_view.specs.declared.numbers.Room.{Room}
use Rattle.frames_view.specs.ViewNumber.{seen_in, checks_of}

-- the points of a frame, the scale, the count of scans, and how many points the index has already
pub record Frame : Type 0 where
  pub tofs : List ℕ
  pub scans : List ℕ
  pub readings : List Float
  pub scale : TofScale
  pub count : ℕ
  pub base : ℕ

abbrev pub frame_of : List ℕ → List ℕ → List Float → TofScale → ℕ → ℕ → Frame
frame_of tofs scans readings scale count base =
    record { tofs = tofs; scans = scans; readings = readings; scale = scale; count = count; base = base }

-- the lent lists: the four of the frame's part of the index, and three of scratch
pub record Lent : Type 0 where
  pub bins : List ℕ
  pub offsets : List ℕ
  pub scans : List ℕ
  pub readings : List Float
  pub keys : List ℕ
  pub order : List ℕ
  pub spare : List ℕ

abbrev pub lent_of : List ℕ → List ℕ → List ℕ → List Float → List ℕ → List ℕ → List ℕ → Lent
lent_of bins offsets scans readings keys order spare =
    record { bins = bins; offsets = offsets; scans = scans; readings = readings; keys = keys; order = order; spare = spare }

abbrev pub room_of : Lent → Room
room_of l =
    record {
      bins = length l.bins;
      offsets = length l.offsets;
      scans = length l.scans;
      readings = length l.readings;
      keys = length l.keys;
      order = length l.order;
      spare = length l.spare;
    }

-- the checks of a frame's points, for readings up to a limit, and the number that they are answered with
abbrev pub view_checks : ℕ → Frame → Room → List Check
view_checks limit f room = checks_of (seen_in limit f.tofs f.scans f.readings) f.count f.base f.scale room

unfoldable pub view_number : ℕ → Frame → Room → ℕ
view_number limit f room = first_of (view_checks limit f room)

abbrev pub number_for : Frame → Lent → ℕ
number_for f l = view_number max_reading f (room_of l)

-- the bins of its points
abbrev pub bins_of : Frame → List ℕ
bins_of f = point_bins f.scale f.tofs

-- how many bins and how many points it has in the index
abbrev pub counts_of : Frame → Counts
counts_of f = record { bins = length (view_bins (bins_of f)); points = kept (bins_of f) }

-- what stands in a lent list if the number is 0: the list at the front, and from place n on what was there; else all that was there
abbrev pub left_in : {A : Type 0} → ℕ → List A → ℕ → List A → List A
left_in number list n before = cond (eqb number 0) (list ++ drop n before) before

-- where what is unchanged of a scratch begins: at the count of points if the number is 0, and else at 0
abbrev pub used_of : ℕ → Frame → ℕ
used_of number f = cond (eqb number 0) (length f.tofs) 0

-- What is left of a frame's points, whose number is that for the lent lists as they were. Accepted, with number 0: each list of the
-- frame's part stands at the front of its lent one, and what a scratch holds before the count of points is open. Refused: all is as it
-- was.
pub record Answered (f : Frame) (lent₀ lent : Lent) (answer : Result Counts Refusal) : Type 0 where
  pub answered : says answer ≡ answer_by (number_for f lent₀) (counts_of f)
  pub bins : lent.bins ≡ left_in (number_for f lent₀) (view_bins (bins_of f)) (length (view_bins (bins_of f))) lent₀.bins
  pub offsets : lent.offsets ≡ left_in (number_for f lent₀) (view_offsets f.base (bins_of f)) (length (view_bins (bins_of f)) + 1) lent₀.offsets
  pub scans : lent.scans ≡ left_in (number_for f lent₀) (view_scans f.count (bins_of f) f.scans) (kept (bins_of f)) lent₀.scans
  pub readings : lent.readings ≡ left_in (number_for f lent₀) (view_readings (bins_of f) f.readings) (kept (bins_of f)) lent₀.readings
  pub keys : drop (used_of (number_for f lent₀) f) lent.keys ≡ drop (used_of (number_for f lent₀) f) lent₀.keys
  pub order : drop (used_of (number_for f lent₀) f) lent.order ≡ drop (used_of (number_for f lent₀) f) lent₀.order
  pub spare : drop (used_of (number_for f lent₀) f) lent.spare ≡ drop (used_of (number_for f lent₀) f) lent₀.spare
