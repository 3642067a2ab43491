-- The retention peak of a mobility peak, made of an apex of a trace.
use Rattle.std.specs.Prelude.{List, ℕ, ◌+◌, min, max, get_or}
use Rattle.numeric.specs.Arith.{◌⊕◌, index_f}
use Rattle.rounding.specs.Rounding.{floor_f, ceil_f}
use Rattle.row_spans.specs.Span.{sample_at}
use Rattle.row_record.specs.declared.ImPeak1D.{ImPeak1D}
use Rattle.rt_record.specs.RtRecord.{rt_peak_of}
use Rattle.rt_record.specs.declared.RtApex.{RtApex}
use Rattle.rt_record.specs.declared.RtBounds.{RtBounds}
use Rattle.rt_record.specs.declared.RtPeak1D.{RtPeak1D}

-- ---- an apex of the trace of the frames of a run from lo on, n of them

-- counted in the run: its index and its ends
unfoldable pub in_run : ℕ → RtApex → RtApex
in_run lo a =
    record {
      rt_idx = lo + a.rt_idx;
      rt_sec = a.rt_sec;
      apex_smoothed = a.apex_smoothed;
      apex_raw = a.apex_raw;
      prominence = a.prominence;
      left_x = a.left_x ⊕ index_f lo;
      right_x = a.right_x ⊕ index_f lo;
      width_frames = a.width_frames;
      area_raw = a.area_raw;
      subframe = a.subframe;
    }

-- The frames at or next to its ends, each held to the trace, by place in the run, and their numbers, the lower first. Where the ends
-- stand the other way round, as those of a fallback may, so do the places.
unfoldable pub bounds_in : ℕ → ℕ → List ℕ → RtApex → RtBounds
bounds_in lo n ids a =
    let l = lo + sample_at n (floor_f a.left_x) in
    let r = lo + sample_at n (ceil_f a.right_x) in
    record {
      rt_lo = l;
      rt_hi = r;
      frame_id_lo = min (get_or ids l 0) (get_or ids r 0);
      frame_id_hi = max (get_or ids l 0) (get_or ids r 0);
    }

-- the retention peak
unfoldable pub placed : ℕ → ℕ → List ℕ → ImPeak1D → RtApex → ℕ → RtPeak1D
placed lo n ids p a id = rt_peak_of (in_run lo a) (bounds_in lo n ids a) p id
