-- What the C entry of stitching answers: 64 times the count of stitched peaks, and the number.
use Rattle.std.specs.Prelude.{◌≡◌, Bool, ◌&&◌, List, ℕ, leb, eqb, length, Float}
use Rattle.stitch_matching.specs.declared.StitchParams.{StitchParams}
use Rattle.stitch_passes.specs.Stitching.{stitched}
use Rattle.stitch.specs.StitchNumber.{peaks_in}
use Rattle.stitch.specs.Answer.{Lent, number_for, Written}
use Rattle.c_grid_stitch.specs.Entry.{entry_answer}

-- ---- what the arguments mean

-- both flags are 0 or 1; another number is a parameter out of range
abbrev pub are_flags : ℕ → ℕ → Bool
are_flags crossing apexes = leb crossing 1 && leb apexes 1

abbrev pub params_of : ℕ → ℕ → Float → ℕ → ℕ → ℕ → Float → ℕ → StitchParams
params_of frames scan_delta share row_delta crossing scans scan_share apexes =
    record {
      min_overlap_frames = frames;
      max_scan_delta = scan_delta;
      jaccard_min = share;
      max_tof_row_delta = row_delta;
      allow_cross_groups = eqb crossing 1;
      min_im_overlap_scans = scans;
      im_jaccard_min = scan_share;
      require_mutual_apex_inside = eqb apexes 1;
    }

-- ---- the answer

-- The answer, and what the six lists hold then: accepted, what is written; refused, all as it was.
pub record Answered (told : Bool) (list : List ℕ) (params : StitchParams) (was is : Lent) (r : ℕ) : Type 0 where
  pub answer : r ≡ entry_answer (number_for told list params was) (length (stitched params (peaks_in list)))
  pub accepted : number_for told list params was ≡ 0 → Written params (peaks_in list) was is
  pub refused : (number_for told list params was ≡ 0 → ⊥) → is ≡ was
