-- Worked cases, each by computation; they need not be read to know what is promised.
use Rattle.std.specs.Prelude.{◌≡◌, refl, [], ◌∷◌, map}
use Rattle.std.specs.Float.{binary32}
use Rattle.std.specs.Float.Ieee.{add, of_bits, to_bits}
use Rattle.refusal.specs.Refusal.{first_of}
use Rattle.limits.specs.Limits.{max_reading}
use Rattle.numeric.specs.Numeric.{in_range, all_in_range}
use Rattle.row_params.specs.Params.{all_up_to, rising, rising_from}
use Rattle.sort_digits.specs.Sorted.{up_to}
use Rattle.frames_index.specs.FrameIndex.{climbs_from, climbs_to, frames_rise_from, frames_rise, sound_lists, seen_in}
use Rattle.frames_index.specs.IndexNumber.{index_number}
use Rattle.frames_sums.specs.Sums.{add_points, add_bins, add_frame, add_frames, frame_sums, scan_sums}
use Rattle.frames_sums.specs.Cases.{run}
use Rattle.frames_marginals.specs.Marginals.{block_of, rt_marginal, im_marginal, marginal_number}

-- Of the three frames of `run`, bins 5 to 7 and scans 10 to 12: by frame, where the order of the points tells, and by scan.
pub marginals :
    map (to_bits binary32) (rt_marginal run (block_of 0 2 5 7 10 12)) ∷ map (to_bits binary32) (im_marginal run (block_of 0 2 5 7 10 12)) ∷ map (to_bits binary32) (rt_marginal run (block_of 2 2 7 9 11 11)) ∷ []
    ≡ (0x4b80_0002 ∷ 0 ∷ 0x4b80_0001 ∷ []) ∷ (0x4000_0000 ∷ 0x4000_0000 ∷ 0x4c00_0000 ∷ []) ∷ (0x3f80_0000 ∷ []) ∷ []
unfolding frame_sums scan_sums add_frames add_frame add_bins add_points up_to add of_bits to_bits
marginals = refl

-- One that is accepted; then frames reversed, a frame past the last, bins reversed, a bin past 4,194,303, scans reversed, a scan past 65,535, and
-- one place too few.
pub numbers :
    marginal_number max_reading run (block_of 0 2 5 4194303 10 65535) 3 3
    ∷ marginal_number max_reading run (block_of 2 1 5 7 10 65536) 0 3
    ∷ marginal_number max_reading run (block_of 0 3 5 7 10 65536) 4 3
    ∷ marginal_number max_reading run (block_of 0 2 7 5 10 12) 3 3
    ∷ marginal_number max_reading run (block_of 0 2 5 4194304 10 12) 3 3
    ∷ marginal_number max_reading run (block_of 0 2 5 7 12 10) 3 3
    ∷ marginal_number max_reading run (block_of 0 2 5 7 10 65536) 4 3
    ∷ marginal_number max_reading run (block_of 0 2 5 7 10 12) 4 3
    ∷ []
    ≡ 0 ∷ 4 ∷ 4 ∷ 4 ∷ 4 ∷ 4 ∷ 5 ∷ 20 ∷ []
unfolding index_number first_of seen_in all_in_range in_range all_up_to sound_lists climbs_to climbs_from frames_rise frames_rise_from rising rising_from of_bits to_bits
numbers = refl
