-- The fallback: one retention peak of a trace that is too short to be searched, or in which the search lists no apex. Its height
-- is that of the highest reading, its place the centre of mass, and its ends are where the trace falls to a share of the height. Frames
-- are those of the trace. Every operation is rounded once, in this order.
use Rattle.std.specs.Prelude.{cond, List, [], ◌∷◌, ℕ, suc, ◌-◌, min, max, eqb, length, get_or, Option, Some, None, Float}
use Rattle.std.specs.Float.{binary32}
use Rattle.std.specs.Float.Ieee.{lt, le, neg, of_bits}
use Rattle.numeric.specs.Arith.{◌⊕◌, ◌⊖◌, ◌⊗◌, ◌⊘◌, 𝟎, ½, 𝟏, index_f}
use Rattle.numeric.specs.Numeric.{max_f, clamp_f}
use Rattle.rounding.specs.Rounding.{floor_f}
use Rattle.row_apex.specs.Apex.{least}
use Rattle.row_record.specs.declared.ImPeak1D.{ImPeak1D}
use Rattle.row_spans.specs.Span.{sample_at, span_of}
use Rattle.row_spans.specs.declared.inner.Span.{Span}
use Rattle.rt_time.specs.Time.{time_between}
use Rattle.rt_record.specs.RtRecord.{rt_peak_of}
use Rattle.rt_record.specs.declared.RtApex.{RtApex}
use Rattle.rt_record.specs.declared.RtBounds.{RtBounds}
use Rattle.rt_record.specs.declared.RtPeak1D.{RtPeak1D}
use Rattle.rt_fallback.specs.declared.inner.Top.{Top}
use Rattle.rt_fallback.specs.declared.inner.Sums.{Sums}

abbrev pub ∞ : Float
∞ = of_bits binary32 0x7f80_0000

-- ---- the height

-- the highest reading above 0 and its place, of equal ones the first; the height 0 where there is none. `place` and `h` are those
-- of the readings before the k-th.
unfoldable pub top_from : List Float → ℕ → ℕ → Float → Top
top_from [] k place h = record { place = place; height = h }
top_from (v ∷ vs) k place h = cond (lt h v) (top_from vs (suc k) k v) (top_from vs (suc k) place h)

abbrev pub top_of : List Float → Top
top_of y = top_from y 0 0 𝟎

-- ---- the place

-- the sum of the readings, and of each times its index
unfoldable pub sums_from : List Float → ℕ → Float → Float → Sums
sums_from [] k mass moment = record { mass = mass; moment = moment }
sums_from (v ∷ vs) k mass moment = sums_from vs (suc k) (mass ⊕ v) (moment ⊕ index_f k ⊗ v)

abbrev pub sums_of : List Float → Sums
sums_of y = sums_from y 0 𝟎 𝟎

-- the centre of mass, in frames; a given place where the sum is not above 0
unfoldable pub centroid : List Float → ℕ → Float
centroid y place = let s = sums_of y in cond (lt 𝟎 s.mass) (s.moment ⊘ s.mass) (index_f place)

-- the time at frame i of an axis and the part `sub` of the way to the next frame; past the axis that of its last frame
unfoldable pub time_of : List Float → ℕ → Float → Float
time_of t i sub = let j = min i (length t - 1) in time_between t j (clamp_f (sub ⊕ index_f i ⊖ index_f j) 𝟎 𝟏)

-- The apex, from the highest reading of the trace y and the span at the threshold. The prominence is the rise above the least
-- reading. The trace is not smoothed, so that both heights are the same.
unfoldable pub apex_of : List Float → List Float → Top → Span → RtApex
apex_of y t top s =
    let mu = centroid y top.place in
    let i = sample_at (length y) (floor_f mu) in
    let sub = clamp_f (mu ⊖ index_f i) (neg ½) ½ in
    record {
      rt_idx = i;
      rt_sec = time_of t i sub;
      apex_smoothed = top.height;
      apex_raw = top.height;
      prominence = max_f (top.height ⊖ least ∞ y) 𝟎;
      left_x = s.left_x;
      right_x = s.right_x;
      width_frames = s.width;
      area_raw = s.area;
      subframe = sub;
    }

-- ---- the bounds

-- the number of a frame, the last one's past the list
abbrev pub number_at : List ℕ → ℕ → ℕ
number_at ids k = get_or ids (min k (length ids - 1)) 0

-- Two frames in order, and their numbers in order, or the mobility peak's where there is no list of numbers. The ends of a
-- trace that does not fall to the threshold can be reversed.
unfoldable pub bounds_of : List ℕ → ImPeak1D → ℕ → ℕ → RtBounds
bounds_of ids p left right =
    let lo = min left right in
    let hi = max left right in
    let a = number_at ids lo in
    let b = number_at ids hi in
    record {
      rt_lo = lo;
      rt_hi = hi;
      frame_id_lo = cond (eqb (length ids) 0) p.frame_id_lo (min a b);
      frame_id_hi = cond (eqb (length ids) 0) p.frame_id_hi (max a b);
    }

-- ---- the peak

-- of the trace y of the mobility peak p, with frame numbers, times and an identity. The span is that at the share `frac` of the
-- height (row_spans/specs/Span.antt). Where the trace does not fall so far, the line through its two outermost readings on that side
-- is continued (`left_crossing` in row_apex/specs/Apex.antt), so that an end can lie outside of the trace, or on the wrong side of the
-- other end. There is no peak where no reading is above 0.
unfoldable pub fallback_of : List Float → List ℕ → List Float → ImPeak1D → Float → ℕ → Option RtPeak1D
fallback_of y ids t p frac id =
    let top = top_of y in
    let s = span_of y y (frac ⊗ top.height) top.place in
    cond (le top.height 𝟎) None (Some (rt_peak_of (apex_of y t top s) (bounds_of ids p s.left s.right) p id))
