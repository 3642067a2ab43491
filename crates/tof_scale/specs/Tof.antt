-- The scale that parts TOF values into bins of one step, from the lowest TOF of all frames to the highest, both rounded down
-- to the step. Edges and centres are worked out.
use Rattle.std.specs.Prelude.{◌≡◌, Bool, true, cond, not, ◌&&◌, List, [], ◌∷◌, ℕ, ◌+◌, ◌-◌, ◌*◌, ◌/◌, ◌%◌, min, max, leb, ltb, eqb, Float}
use Rattle.std.specs.Float.Ieee.{le}
use Rattle.limits.specs.Limits.{max_step, max_tof}
use Rattle.numeric.specs.Arith.{◌⊕◌, ◌⊖◌, ◌⊗◌, 𝟎, ½, 𝟏, index_f}
use Rattle.numeric.specs.Numeric.{cast_f}
use Rattle.refusal.specs.Refusal.{Check, first_of}
use Rattle.row_params.specs.declared.RowPlace.{RowPlace}
use Rattle.tof_scale.specs.declared.TofScale.{TofScale}
use Rattle.tof_scale.specs.declared.inner.Span.{Span}

-- ---- bins

-- the lower edge of bin i, which is the upper one of the bin before it
abbrev pub edge : TofScale → ℕ → ℕ
edge s i = s.tof_min + i * s.tof_step

-- The TOF values that have a bin. The highest TOF is the last bin's lower edge, so readings in that bin above the edge get
-- none.
abbrev pub in_scale : TofScale → ℕ → Bool
in_scale s t = leb s.tof_min t && leb t s.tof_max

abbrev pub bin_of : TofScale → ℕ → ℕ
bin_of s t = (t - s.tof_min) / s.tof_step

abbrev pub last_bin : TofScale → ℕ
last_bin s = s.num_bins - 1

-- The first and the last bin of the window from lo to hi: those of its ends, held to the scale. A window that ends at the
-- lowest TOF or below it gives the first bin alone, and one that begins at the highest or above it the last.
abbrev pub window_between : TofScale → ℕ → ℕ → Span
window_between s lo hi =
    cond (leb hi s.tof_min)
    (record { lo = 0; hi = 0 })
    (cond (leb s.tof_max lo)
    (record { lo = last_bin s; hi = last_bin s })
    (record { lo = bin_of s (max lo s.tof_min); hi = bin_of s (min hi s.tof_max) }))

-- of a window whose ends come in either order
unfoldable pub window_bins : TofScale → ℕ → ℕ → Span
window_bins s a b = window_between s (min a b) (max a b)

-- ---- centres

-- the centre of bin i, the mean of its edges
unfoldable pub center_f : TofScale → ℕ → Float
center_f s i = ½ ⊗ (index_f (edge s i) ⊕ index_f (edge s (i + 1)))

-- The centre at a place between bins: the first bin's and the last one's outside, and between two bins by shares. There the
-- place is above 0, and the cast rounds it down.
unfoldable pub center_at_f : TofScale → Float → Float
center_at_f s mu =
    let i = cast_f mu in
    let t = mu ⊖ index_f i in
    cond (le mu 𝟎)
    (center_f s 0)
    (cond (le (index_f (last_bin s)) mu)
    (center_f s (last_bin s))
    (center_f s i ⊗ (𝟏 ⊖ t) ⊕ center_f s (min (i + 1) (last_bin s)) ⊗ t))

-- what a row of the scale is told of its place; the centre as a whole number, a half rounded up
abbrev pub row_place : TofScale → ℕ → RowPlace
row_place s i =
    record {
      tof_row = i;
      tof_center = edge s i + (s.tof_step + 1) / 2;
      tof_lo = edge s i;
      tof_hi = edge s i + s.tof_step;
    }

-- ---- what a scale must be

-- number 4: a step from 1 to 65,536
unfoldable pub sound_step : ℕ → Bool
sound_step step = leb 1 step && leb step max_step

-- number 5: both ends to 4,194,303
unfoldable pub sound_ends : TofScale → Bool
sound_ends s = leb s.tof_min max_tof && leb s.tof_max max_tof

-- number 22: the ends are multiples of the step and not reversed, and the count of bins is theirs; no scale has a step of 0
unfoldable pub agreeing : TofScale → Bool
agreeing s =
    ltb 0 s.tof_step && leb s.tof_min s.tof_max && eqb (s.tof_min % s.tof_step) 0
    && eqb (s.tof_max % s.tof_step) 0
    && eqb s.num_bins (bin_of s s.tof_max + 1)

-- a scale to which none of these numbers applies
pub record Sound (s : TofScale) : Type 0 where
  pub step : sound_step s.tof_step ≡ true
  pub ends : sound_ends s ≡ true
  pub agree : agreeing s ≡ true

-- The checks of a call on a scale, and the number that they give. A call may have a value of its own that number 4 holds to a
-- range, and TOF values that number 5 does: `value` and `tofs` say that those are in range.
abbrev pub scale_checks : TofScale → Bool → Bool → List Check
scale_checks s value tofs =
    record { number = 4; applies = not (sound_step s.tof_step && value) }
    ∷ record { number = 5; applies = not (sound_ends s && tofs) }
    ∷ record { number = 22; applies = not (agreeing s) }
    ∷ []

unfoldable pub scale_number : TofScale → Bool → Bool → ℕ
scale_number s value tofs = first_of (scale_checks s value tofs)

-- ---- a scale of TOF values

-- the lowest and the highest of some TOF values; of none, the highest u32 and 0
unfoldable pub lowest_tof : List ℕ → ℕ
lowest_tof [] = 4294967295
lowest_tof (t ∷ ts) = min t (lowest_tof ts)

unfoldable pub highest_tof : List ℕ → ℕ
highest_tof [] = 0
highest_tof (t ∷ ts) = max t (highest_tof ts)

abbrev pub ends_of : List ℕ → Span
ends_of tofs = record { lo = lowest_tof tofs; hi = highest_tof tofs }

-- t rounded down to a multiple of the step
abbrev pub rounded : ℕ → ℕ → ℕ
rounded step t = t - t % step

-- the scale of values from lo to hi; both may round to one, and there is one bin then
unfoldable pub scale_of : ℕ → ℕ → ℕ → TofScale
scale_of lo hi step =
    record {
      tof_min = rounded step lo;
      tof_max = rounded step hi;
      tof_step = step;
      num_bins = (rounded step hi - rounded step lo) / step + 1;
    }
