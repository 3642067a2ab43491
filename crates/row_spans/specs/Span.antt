-- How far an apex reaches at a height: y is the row that is searched, z the raw one.
use Rattle.std.specs.Prelude.{cond, List, ℕ, ◌-◌, ◌≤◌, ◌<◌, leb, length, Float, Option, Some, None}
use Rattle.limits.specs.Limits.{exact_index}
use Rattle.numeric.specs.Arith.{◌⊖◌, 𝟎, index_f}
use Rattle.numeric.specs.Numeric.{max_f, min_f, clamp_f, cast_f}
use Rattle.rounding.specs.Rounding.{floor_f, ceil_f, round_f}
use Rattle.row_apex.specs.Apex.{left_foot, right_foot, left_crossing, right_crossing}
use Rattle.row_area.specs.Area.{area_f}
use Rattle.row_spans.specs.declared.inner.Reach.{Reach}
use Rattle.row_spans.specs.declared.inner.Span.{Span}

-- the apex at i lies in a row of n samples, and the raw one has m; both can be counted in floats
pub record Within (n m i : ℕ) : Type 0 where
  pub inside : i < n
  pub short : n ≤ exact_index
  pub raw-short : m ≤ exact_index

-- the sample at or next to a place, within a row of n
abbrev pub sample_at : ℕ → Float → ℕ
sample_at n x = cast_f (clamp_f x 𝟎 (index_f (n - 1)))

-- from crossing to crossing, rounded
unfoldable pub width_of : Float → Float → ℕ
width_of lx rx = cast_f (round_f (max_f (rx ⊖ lx) 𝟎))

-- the feet, the crossings and the width of the apex at i, at the height h
unfoldable pub reach_of : List Float → Float → ℕ → Reach
reach_of y h i =
    let lx = left_crossing y h i in
    let rx = right_crossing y h i in
    record { left_foot = left_foot y h i; right_foot = right_foot y h i; left_x = lx; right_x = rx; width = width_of lx rx }

-- the same with the samples at or next to the crossings, and the area between them
unfoldable pub span_of : List Float → List Float → Float → ℕ → Span
span_of y z h i =
    let lx = left_crossing y h i in
    let rx = right_crossing y h i in
    let n = length y in
    record {
      left = sample_at n (floor_f lx);
      right = sample_at n (ceil_f rx);
      width = width_of lx rx;
      left_x = lx;
      right_x = rx;
      area = area_f z (max_f lx 𝟎) (min_f rx (index_f (n - 1)));
    }

-- a span, where it is at least so wide
abbrev pub if_wide : ℕ → Span → Option Span
if_wide least s = cond (leb least s.width) (Some s) None
