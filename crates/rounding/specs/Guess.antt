-- A whole number next to a place, once a guess of it was found right.
use Rattle.std.specs.Prelude.{◌≡◌, ℕ, ◌<◌, Float}
use Rattle.limits.specs.Limits.{exact_index}
use Rattle.numeric.specs.Arith.{index_f}
use Rattle.numeric.specs.Numeric.{cast_f}
use Rattle.rounding.specs.Rounding.{floor_f}

-- x is the whole number g
pub record Whole (x : Float) (g : ℕ) : Type 0 where
  pub small : g < exact_index
  pub whole : x ≡ index_f g

-- g is the whole number at most x, which is not negative
pub record Floor (x : Float) (g : ℕ) : Type 0 where
  pub floor : Whole (floor_f x) g
  pub cast : cast_f x ≡ g
