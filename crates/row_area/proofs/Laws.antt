-- Laws of the area under a row.
use mathlib.Core.Path.{◌≡◌}
use mathlib.Core.List.{List}
use Prim.Native.Nat.{ℕ, suc, ◌<◌, ◌-◌, ◌+◌}
use native.Mathlib.Omega.{arith}
use lib.Ieee.{Float}
use Rattle.numeric.specs.Arith.{◌⊕◌, ◌⊗◌, ½, at}
use Rattle.row_area.specs.Area.{whole}

-- whole segments from s up to another: one more of them
pub whole_step : (y : List Float) (to s : ℕ) (a : Float) → s < to
    → whole y (to - s) s a ≡ whole y (to - (s + 1)) (s + 1) (a ⊕ ½ ⊗ (at y s ⊕ at y (s + 1)))
unfolding whole
whole_step y to s a h = let e : to - s ≡ suc (to - (s + 1)) = omega arith in rw e
