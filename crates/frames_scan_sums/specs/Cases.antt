-- Worked cases, by computation; they need not be read to know what is promised.
use Rattle.std.specs.Prelude.{◌≡◌, refl, [], ◌∷◌, map}
use Rattle.std.specs.Float.{binary32}
use Rattle.std.specs.Float.Ieee.{add, of_bits, to_bits}
use Rattle.sort_digits.specs.Sorted.{up_to}
use Rattle.frames_sums.specs.Sums.{add_points, add_bins, add_frame, add_frames, scan_sums}
use Rattle.frames_sums.specs.Cases.{run, window}

-- Scans 10 to 12 of bins 5 to 7 over all frames, and of bin 7 over the last two.
pub along-scans :
    map (to_bits binary32) (scan_sums run (window 5 7 10 12) 0 3) ∷ map (to_bits binary32) (scan_sums run (window 7 7 11 12) 1 2) ∷ []
    ≡ (0x4000_0000 ∷ 0x4000_0000 ∷ 0x4c00_0000 ∷ []) ∷ (0x3f80_0000 ∷ 0x4b80_0000 ∷ []) ∷ []
unfolding scan_sums add_frames add_frame add_bins add_points up_to add of_bits to_bits
along-scans = refl
