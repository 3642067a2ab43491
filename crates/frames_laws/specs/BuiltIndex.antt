-- The index of a run whose frames are built one after the other by `build_frame_bin_view`, and that no entry refuses it.
use Rattle.std.specs.Prelude.{◌≡◌, true, false, List, [], ◌∷◌, ◌++◌, ℕ, ◌+◌, ◌≤◌, length, take}
use Rattle.limits.specs.Limits.{max_scan, max_points, max_frames}
use Rattle.numeric.specs.Numeric.{all_in_range}
use Rattle.row_params.specs.Params.{all_up_to}
use Rattle.frames_index.specs.declared.inner.Seen.{Seen}
use Rattle.frames_index.specs.FrameIndex.{Index, points, agreeing, sound_index, seen_in}
use Rattle.frames_bins.specs.FrameBins.{view_bins, view_offsets, view_scans, view_readings}
use Rattle.frames_view.specs.declared.numbers.Room.{Room}
use Rattle.frames_view.specs.Answer.{Frame, bins_of, view_number}

-- ---- joining

-- an index of no frame
abbrev pub no_frames : Index
no_frames = record { starts = 0 ∷ []; bins = []; offsets = 0 ∷ []; scans = []; readings = [] }

-- An index with one more frame: the frame's bins, scans and readings behind those that are there; its offsets from the place of its first
-- bin on, where the end of the frame before it stood; and behind the starts the count of bins that there are now.
abbrev pub with_frame : Index → Frame → Index
with_frame ix f =
    record {
      starts = ix.starts ++ ((length ix.bins + length (view_bins (bins_of f))) ∷ []);
      bins = ix.bins ++ view_bins (bins_of f);
      offsets = take (length ix.bins) ix.offsets ++ view_offsets f.base (bins_of f);
      scans = ix.scans ++ view_scans f.count (bins_of f) f.scans;
      readings = ix.readings ++ view_readings (bins_of f) f.readings;
    }

-- with several, one after the other
unfoldable pub with_frames : Index → List Frame → Index
with_frames ix [] = ix
with_frames ix (f ∷ fs) = with_frames (with_frame ix f) fs

-- a frame that is counted from the points of the index on, and that no number refuses, for lent lists of some lengths
pub record Accepted (limit : ℕ) (ix : Index) (f : Frame) : Type 0 where
  pub room : Room
  pub base : f.base ≡ points ix
  pub none : view_number limit f room ≡ 0

-- each frame of a run is such, on the index of those before it
abbrev pub Run : ℕ → Index → List Frame → Type 0
Run limit ix [] = Unit {0}
Run limit ix (f ∷ fs) = Accepted limit ix f × Run limit (with_frame ix f) fs

-- ---- what is proved

-- What the numbers 1, 3, 5 and 23 ask of an index, and number 2 of its points and bins, for readings up to a limit.
pub record Usable (limit : ℕ) (ix : Index) : Type 0 where
  pub lengths : agreeing ix ≡ true
  pub readings : all_in_range limit ix.readings ≡ true
  pub scans : all_up_to max_scan ix.scans ≡ true
  pub sound : sound_index ix ≡ true
  pub fewer : length ix.bins ≤ points ix
  pub few : points ix ≤ max_points

-- one frame more keeps an index usable, whatever the frame held: `frame-usable` in proofs/BuiltIndex.antt
abbrev pub FrameUsable : Type 0
FrameUsable = (limit : ℕ) (ix : Index) (f : Frame) → Usable limit ix → Accepted limit ix f → Usable limit (with_frame ix f)

-- so the index of a run is usable: `run-usable`
abbrev pub RunUsable : Type 0
RunUsable = (limit : ℕ) (fs : List Frame) → Run limit no_frames fs → Usable limit (with_frames no_frames fs)

-- and with no more than 16,384 frames none of the numbers of an index applies: `run-seen`
abbrev pub all_met : Seen
all_met = record { agreeing = true; too_large = false; readings = true; scans = true; sound = true }

abbrev pub RunSeen : Type 0
RunSeen = (limit : ℕ) (fs : List Frame) → length fs ≤ max_frames → Run limit no_frames fs → seen_in limit (with_frames no_frames fs) ≡ all_met

-- a frame alone, counted from 0, is an index as it stands: `alone-usable`
abbrev pub alone : Frame → Index
alone f =
    record {
      starts = 0 ∷ length (view_bins (bins_of f)) ∷ [];
      bins = view_bins (bins_of f);
      offsets = view_offsets 0 (bins_of f);
      scans = view_scans f.count (bins_of f) f.scans;
      readings = view_readings (bins_of f) f.readings;
    }

abbrev pub AloneUsable : Type 0
AloneUsable = (limit : ℕ) (f : Frame) (room : Room) → f.base ≡ 0 → view_number limit f room ≡ 0 → Usable limit (alone f)
