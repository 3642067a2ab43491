-- Helpers on binary32 values, each as Rust's `f32` method of that name has it, for every value, NaNs and infinities too.
use Rattle.std.specs.Prelude.{ℕ, Bool, true, false, cond, ◌&&◌, List, [], ◌∷◌, from_bits, is_nan, nat_le, to_bits, Float}
use Rattle.std.specs.Float.{nan, inf, fin, binary32}
use Rattle.std.specs.Float.Ieee.{lt, to_unsigned}
use Rattle.numeric.specs.Arith.{◌⊕◌, ◌⊖◌, ◌⊗◌, ◌⊘◌, 𝟎, ½, 𝟐}

-- the higher of two, and of equal ones (as two zeros are) the first; a NaN yields to the other
unfoldable pub max_f : Float → Float → Float
max_f a b = cond (is_nan a) b (cond (lt a b) b a)

-- the lower of two, likewise
unfoldable pub min_f : Float → Float → Float
min_f a b = cond (is_nan a) b (cond (lt b a) b a)

-- the value without its sign
unfoldable pub abs_f : Float → Float
abs_f nan = nan
abs_f (inf s) = inf false
abs_f (fin s m e) = fin false m e

-- the value held between two limits; a NaN stays one
unfoldable pub clamp_f : Float → Float → Float → Float
clamp_f x lo hi = cond (lt x lo) lo (cond (lt hi x) hi x)

-- Rust's `x as u32`: toward zero, held to 0 .. 2 ^ 32 - 1, and 0 for a NaN
abbrev pub cast_f : Float → ℕ
cast_f x = to_unsigned 32 x

-- ---- ranges of document 01

-- A value from 0 to a limit with its sign bit clear. Bit patterns with a clear sign order like the values, and those of
-- minus zero, negative values, values above the limit, infinities and NaNs are all higher; so the test is one of patterns.
unfoldable pub in_range : ℕ → Float → Bool
in_range limit x = nat_le (to_bits binary32 x) limit

-- every reading of a list in range
unfoldable pub all_in_range : ℕ → List Float → Bool
all_in_range limit [] = true
all_in_range limit (x ∷ xs) = in_range limit x && all_in_range limit xs

-- ---- interpolation

-- the value at the share t of the way from a to b
unfoldable pub lerp_f : Float → Float → Float → Float
lerp_f a b t = a ⊕ t ⊗ (b ⊖ a)

-- Where a parabola through three samples has its apex, in samples from the middle one. 0x2b8c_bccc is 1e-12: a bend below
-- it gives plus zero, and a symmetric apex with more bend gives minus zero.
unfoldable pub quad_f : Float → Float → Float → Float
quad_f y0 y1 y2 =
    let bend = y0 ⊖ 𝟐 ⊗ y1 ⊕ y2 in cond (lt (abs_f bend) (from_bits binary32 0x2b8c_bccc)) 𝟎 (½ ⊗ (y0 ⊖ y2) ⊘ bend)
