-- The first call of expansion.
use Rattle.std.specs.Prelude.{not, ◌&&◌, List, [], ◌∷◌, ℕ, ◌+◌, ◌-◌, ltb, eqb, length, take, drop, Option, Some, None, Float}
use Rattle.std.specs.Float.{binary32}
use Rattle.std.specs.Float.Ieee.{of_bits}
use Rattle.refusal.specs.Refusal.{Check, first_of}
use Rattle.limits.specs.Limits.{max_frames, max_seconds}
use Rattle.numeric.specs.Arith.{◌⊘◌}
use Rattle.numeric.specs.Numeric.{max_f, all_in_range}
use Rattle.row_params.specs.Params.{rising}
use Rattle.row_record.specs.Record.{size, all_sound}
use Rattle.row_record.specs.declared.ImPeak1D.{ImPeak1D}
use Rattle.rt_time.specs.Time.{never_falls}
use Rattle.rt_noise.specs.Noise.{dt_f}
use Rattle.rt_params.specs.Expand.{sound_expand}
use Rattle.rt_params.specs.declared.RtExpandParams.{RtExpandParams}
use Rattle.expand_padded_window.specs.declared.Frames.{Frames}
use Rattle.expand_padded_window.specs.FrameWindow.{padded_window}
use Rattle.expand_window.specs.declared.inner.RtWindow.{RtWindow}

-- of a list with a value a frame, the values of the frames lo to hi
abbrev pub cut : {A : Type 0} → ℕ → ℕ → List A → List A
cut lo hi l = take (hi + 1 - lo) (drop lo l)

-- the least sigma, 0.75 frames
abbrev pub least_sigma : Float
least_sigma = of_bits binary32 0x3f40_0000

-- a smoothing of `sec` seconds in frames, by the time step over the frames lo to hi
unfoldable pub sigma_over : Float → List Float → ℕ → ℕ → Float
sigma_over sec times lo hi = max_f (sec ⊘ dt_f (cut lo hi times)) least_sigma

-- a window with its sigma
unfoldable pub with_sigma : Float → List Float → Option Frames → Option RtWindow
with_sigma sec times None = None
with_sigma sec times (Some w) = Some (record { frames = w; sigma = sigma_over sec times w.lo w.hi })

-- The padded frame window of a mobility peak in a run with these frame numbers and times, with its sigma, if it has one.
unfoldable pub window_of : List ℕ → List Float → RtExpandParams → ImPeak1D → Option RtWindow
window_of ids times e p =
    with_sigma e.smooth_sigma_sec times (padded_window ids p.frame_id_lo p.frame_id_hi e.rt_pad_frames)

-- ---- the entry

-- Its checks. 1: not one record, or frame numbers and times of unequal count. 2: more than 16,384 frames. 4: a parameter out of range,
-- or a time not from 0 to 2^20. 7: frame numbers that do not rise, or times that fall. 9: an unsound record.
abbrev pub window_checks : List ℕ → List ℕ → List Float → RtExpandParams → List Check
window_checks peak ids times e =
    record { number = 1; applies = not (eqb (length peak) size && eqb (length times) (length ids)) }
    ∷ record { number = 2; applies = ltb max_frames (length ids) }
    ∷ record { number = 4; applies = not (sound_expand e && all_in_range max_seconds times) }
    ∷ record { number = 7; applies = not (rising ids && never_falls times) }
    ∷ record { number = 9; applies = not (all_sound peak 1) }
    ∷ []

unfoldable pub window_number : List ℕ → List ℕ → List Float → RtExpandParams → ℕ
window_number peak ids times e = first_of (window_checks peak ids times e)
