-- Worked cases, each by computation; they need not be read to know what is promised.
use Rattle.std.specs.Prelude.{◌≡◌, refl, [], ◌∷◌, map, ℕ, Float}
use Rattle.std.specs.Float.{binary32}
use Rattle.std.specs.Float.Ieee.{add, of_bits, to_bits}
use Rattle.sort_digits.specs.Sorted.{up_to}
use Rattle.frames_index.specs.FrameIndex.{Index}
use Rattle.frames_sums.specs.declared.inner.Window.{Window}
use Rattle.frames_sums.specs.Sums.{add_points, add_bins, add_frame, frame_sums}
use Rattle.frames_sums.specs.Steps.{index_of}

abbrev pub float : ℕ → Float
float b = of_bits binary32 b

-- 1, 2, 4 and 2^24, to which one by one adds nothing
abbrev pub one : Float
one = float 0x3f80_0000

abbrev pub two : Float
two = float 0x4000_0000

abbrev pub four : Float
four = float 0x4080_0000

abbrev pub large : Float
large = float 0x4b80_0000

-- Three frames. The first has bin 5 with readings 2 at scan 10 and 4 at scan 20, bin 7 with 2^24, 1, 1 at scans 12, 12, 11, and bin 9 with
-- 4 at scan 12. The second has no bin. The third has bin 7 with 1, 1, 2^24 at scans 12, 11, 12.
abbrev pub run : Index
run =
    index_of
    (0 ∷ 3 ∷ 3 ∷ 4 ∷ [])
    (5 ∷ 7 ∷ 9 ∷ 7 ∷ [])
    (0 ∷ 2 ∷ 5 ∷ 6 ∷ 9 ∷ [])
    (10 ∷ 20 ∷ 12 ∷ 12 ∷ 11 ∷ 12 ∷ 12 ∷ 11 ∷ 12 ∷ [])
    (two ∷ four ∷ large ∷ one ∷ one ∷ four ∷ one ∷ one ∷ large ∷ [])

abbrev pub window : ℕ → ℕ → ℕ → ℕ → Window
window b c s t = record { bin_lo = b; bin_hi = c; scan_lo = s; scan_hi = t }

-- Bin 7 alone: the order of the points tells. Then the first bin counts at the window's lower end and the last at its upper end, scans
-- likewise, and nothing lies in a reversed window.
pub along-frames :
    map (to_bits binary32) (frame_sums run (window 6 8 0 30) 0 3)
    ∷ map (to_bits binary32) (frame_sums run (window 5 6 10 19) 0 3)
    ∷ map (to_bits binary32) (frame_sums run (window 5 6 10 20) 0 1)
    ∷ map (to_bits binary32) (frame_sums run (window 8 9 12 12) 0 3)
    ∷ map (to_bits binary32) (frame_sums run (window 7 7 11 11) 1 2)
    ∷ map (to_bits binary32) (frame_sums run (window 9 5 0 30) 0 3)
    ∷ []
    ≡ (0x4b80_0000 ∷ 0 ∷ 0x4b80_0001 ∷ [])
    ∷ (0x4000_0000 ∷ 0 ∷ 0 ∷ [])
    ∷ (0x40c0_0000 ∷ [])
    ∷ (0x4080_0000 ∷ 0 ∷ 0 ∷ [])
    ∷ (0 ∷ 0x3f80_0000 ∷ [])
    ∷ (0 ∷ 0 ∷ 0 ∷ [])
    ∷ []
unfolding frame_sums add_frame add_bins add_points up_to add of_bits to_bits
along-frames = refl
