-- Worked cases, by computation; they need not be read to know what is promised. A trace of five frames from frame 10 of a run on, whose frames
-- have the numbers 100, 102 and so on.
use Rattle.std.specs.Prelude.{◌≡◌, refl, List, [], ◌∷◌, map, ℕ, ◌*◌, ◌+◌, Float}
use Rattle.std.specs.Float.{binary32}
use Rattle.std.specs.Float.Ieee.{of_bits, of_int, neg, add, lt, round, to_unsigned}
use Rattle.numeric.specs.Arith.{index_f, 𝟎, ½}
use Rattle.numeric.specs.Numeric.{clamp_f}
use Rattle.rounding.specs.Rounding.{floor_f, ceil_f}
use Rattle.rt_record.specs.declared.RtApex.{RtApex}
use Rattle.rt_record.specs.declared.RtBounds.{RtBounds}
use Rattle.expand_placed.specs.Placed.{in_run, bounds_in}

ids : List ℕ
ids = map (λ k. 100 + 2 * k) (0 ∷ 1 ∷ 2 ∷ 3 ∷ 4 ∷ 5 ∷ 6 ∷ 7 ∷ 8 ∷ 9 ∷ 10 ∷ 11 ∷ 12 ∷ 13 ∷ 14 ∷ 15 ∷ [])

-- an apex at an index, with these ends; and one at index 2
abbrev apex_at : ℕ → Float → Float → RtApex
apex_at i l r =
    record {
      rt_idx = i;
      rt_sec = 𝟎;
      apex_smoothed = 𝟎;
      apex_raw = 𝟎;
      prominence = 𝟎;
      left_x = l;
      right_x = r;
      width_frames = 0;
      area_raw = 𝟎;
      subframe = 𝟎;
    }

abbrev apex : Float → Float → RtApex
apex l r = apex_at 2 l r

-- from 0.5 to 2.25: the frame below the left end and the one above the right end
around : bounds_in 10 5 ids (apex ½ (of_bits binary32 0x4010_0000)) ≡ record { rt_lo = 10; rt_hi = 13; frame_id_lo = 120; frame_id_hi = 126 }
unfolding bounds_in ids floor_f ceil_f round clamp_f lt of_int of_bits to_unsigned
around = refl

-- ends at frames stay there
at_frames : bounds_in 10 5 ids (apex (index_f 1) (index_f 3)) ≡ record { rt_lo = 11; rt_hi = 13; frame_id_lo = 122; frame_id_hi = 126 }
unfolding bounds_in ids floor_f ceil_f round clamp_f lt of_int of_bits to_unsigned
at_frames = refl

-- ends outside of the trace are held to its first and its last frame, and not to those of the run
held : bounds_in 10 5 ids (apex (neg (index_f 2)) (of_bits binary32 0x4118_0000)) ≡ record { rt_lo = 10; rt_hi = 14; frame_id_lo = 120; frame_id_hi = 128 }
unfolding bounds_in ids floor_f ceil_f round clamp_f lt neg of_int of_bits to_unsigned
held = refl

-- ends that stand the other way round, at 3.5 and 1.25: so do the places, and the lower number comes first
turned : bounds_in 10 5 ids (apex (of_bits binary32 0x4060_0000) (of_bits binary32 0x3fa0_0000)) ≡ record { rt_lo = 13; rt_hi = 12; frame_id_lo = 124; frame_id_hi = 126 }
unfolding bounds_in ids floor_f ceil_f round clamp_f lt of_int of_bits to_unsigned
turned = refl

-- index and ends are counted in the run
counted : in_run 10 (apex ½ (index_f 3)) ≡ apex_at 12 (of_bits binary32 0x4128_0000) (index_f 13)
unfolding in_run add of_int of_bits
counted = refl
