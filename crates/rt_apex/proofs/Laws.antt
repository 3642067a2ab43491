-- A peak from what is measured of its apex, and a literal that the code writes as a negated one.
use mathlib.Core.Path.{◌≡◌, refl, ap}
use mathlib.Core.List.{List}
use Prim.Native.Nat.{ℕ}
use lib.ListN.{length}
use lib.Ieee.{Float}
use Rattle.numeric.specs.Arith.{◌⊕◌, index_f, at}
use Rattle.rt_time.specs.Time.{time_at}
use Rattle.row_spans.specs.Span.{span_of}
use Rattle.row_search.specs.Qualifying.{left_x, right_x, width}
use Rattle.row_search.specs.Found.{measured_of}
use Rattle.row_search.specs.declared.inner.Measured.{Measured}
use Rattle.rt_apex.specs.declared.inner.Seconds.{Seconds}
use Rattle.rt_apex.specs.InTime.{subframe, apex_time, seconds_of, apex_area, local_peak_of}
use Rattle.rt_apex.specs.Steps.{Inside}

-- what is measured of an apex: its crossings and its area
pub left_is : (y z : List Float) (i : ℕ) → (measured_of y z i).left_x ≡ left_x y i
unfolding measured_of span_of left_x
left_is y z i = refl

pub right_is : (y z : List Float) (i : ℕ) → (measured_of y z i).right_x ≡ right_x y i
unfolding measured_of span_of right_x
right_is y z i = refl

pub area-is : (y z : List Float) (i : ℕ) → (measured_of y z i).area ≡ apex_area y z i
unfolding measured_of span_of left_x right_x apex_area
area-is y z i = refl

pub local-is : (y z t : List Float) (a : Measured) (sub sec : Float) (s : Seconds) → Inside y z t a → sub ≡ subframe y a.index
    → sec ≡ time_at t (index_f a.index ⊕ sub) → s ≡ seconds_of t (length y) a.left_x a.right_x
    → record {
      apex = record {
        rt_idx = a.index;
        rt_sec = sec;
        apex_smoothed = at y a.index;
        apex_raw = at z a.index;
        prominence = a.prominence;
        left_x = a.left_x;
        right_x = a.right_x;
        width_frames = a.width;
        area_raw = a.area;
        subframe = sub;
      };
      left_sec = s.left;
      right_sec = s.right;
      width_sec = s.width;
    } ≡ local_peak_of y z t a.index
unfolding local_peak_of apex_time measured_of span_of left_x right_x width apex_area
local-is y z t a sub sec s inside e q f =
    let i = inside.is in
    let ep = ap (λ (m : Measured). m.prominence) i in
    let el = ap (λ (m : Measured). m.left_x) i in
    let er = ap (λ (m : Measured). m.right_x) i in
    let ew = ap (λ (m : Measured). m.width) i in
    let ea = ap (λ (m : Measured). m.area) i in
    rw (q, e, f, ep, el, er, ew, ea)

-- the index of a local peak is that of its apex
pub local-index : (y x t : List Float) (i : ℕ) → (local_peak_of y x t i).apex.rt_idx ≡ i
unfolding local_peak_of
local-index y x t i = refl
