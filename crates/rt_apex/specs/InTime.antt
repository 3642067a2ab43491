-- An apex of a retention trace in time: y is the smoothed trace, z the raw one, t the times, one a frame. Every operation is rounded
-- once, in this order.
use Rattle.std.specs.Prelude.{List, ℕ, ◌+◌, ◌-◌, length, Float}
use Rattle.std.specs.Float.{binary32}
use Rattle.std.specs.Float.Ieee.{of_bits}
use Rattle.numeric.specs.Arith.{◌⊕◌, ◌⊖◌, 𝟎, ½, index_f, at}
use Rattle.numeric.specs.Numeric.{max_f, min_f, clamp_f, quad_f}
use Rattle.rt_time.specs.Time.{time_at}
use Rattle.row_apex.specs.Apex.{prominence}
use Rattle.row_area.specs.Area.{area_f}
use Rattle.row_search.specs.Qualifying.{left_x, right_x, width}
use Rattle.rt_record.specs.declared.RtLocalPeak.{RtLocalPeak}
use Rattle.rt_apex.specs.declared.inner.Seconds.{Seconds}

-- how far the apex lies from its frame, in frames
unfoldable pub subframe : List Float → ℕ → Float
subframe y i = clamp_f (quad_f (at y (i - 1)) (at y i) (at y (i + 1))) (of_bits binary32 0xbf00_0000) ½

-- when the apex is reached
unfoldable pub apex_time : List Float → List Float → ℕ → Float
apex_time y t i = time_at t (index_f i ⊕ subframe y i)

-- the times at two places of a trace of n frames, each held to the trace, and the seconds between
unfoldable pub seconds_of : List Float → ℕ → Float → Float → Seconds
seconds_of t n lx rx =
    let left = time_at t (max_f lx 𝟎) in
    let right = time_at t (min_f rx (index_f (n - 1))) in
    record { left = left; right = right; width = max_f (right ⊖ left) 𝟎 }

-- where the trace crosses the apex's half height, in seconds, and the width between, which is not rounded to frames
abbrev pub seconds : List Float → List Float → ℕ → Seconds
seconds y t i = seconds_of t (length y) (left_x y i) (right_x y i)

-- the raw area between the two places
unfoldable pub apex_area : List Float → List Float → ℕ → Float
apex_area y z i = area_f z (max_f (left_x y i) 𝟎) (min_f (right_x y i) (index_f (length y - 1)))

-- the peak of an apex; its width in frames is rounded
unfoldable pub local_peak_of : List Float → List Float → List Float → ℕ → RtLocalPeak
local_peak_of y z t i =
    let s = seconds y t i in
    record {
      apex = record {
        rt_idx = i;
        rt_sec = apex_time y t i;
        apex_smoothed = at y i;
        apex_raw = at z i;
        prominence = prominence y i;
        left_x = left_x y i;
        right_x = right_x y i;
        width_frames = width y i;
        area_raw = apex_area y z i;
        subframe = subframe y i;
      };
      left_sec = s.left;
      right_sec = s.right;
      width_sec = s.width;
    }
