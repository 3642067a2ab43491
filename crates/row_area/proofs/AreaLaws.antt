-- What the number of an area says.
use mathlib.Core.Path.{◌≡◌, refl}
use mathlib.Core.Bool.{true, false}
use mathlib.Core.List.{List}
use Prim.Native.Nat.{ℕ}
use lib.Ieee.{Float}
use Rattle.refusal.specs.Refusal.{first_of, ascending_from}
use Rattle.refusal.proofs.RefusalLaws.{lowest_by, none-by, applies_for}
use Rattle.row_area.specs.Area.{area_checks, area_number}
use Rattle.row_area.specs.AreaLaws.{AreaLowest}

pub number_is : (y : List Float) (x0 x1 : Float) → area_number y x0 x1 ≡ first_of (area_checks y x0 x1)
unfolding area_number
number_is y x0 x1 = refl

module _ (y : List Float) (x0 x1 : Float) where
  ascending : ascending_from 0 (area_checks y x0 x1) ≡ true
  unfolding ascending_from
  ascending = refl

  -- where it is 0, the check with the number n does not apply
  pub none-for : (n : ℕ) → area_number y x0 x1 ≡ 0 → applies_for n (area_checks y x0 x1) ≡ false
  none-for n z = none-by n (area_checks y x0 x1) (number_is y x0 x1) ascending z

-- it is the lowest that applies
pub number-lowest : AreaLowest
number-lowest y x0 x1 h = lowest_by (area_checks y x0 x1) (number_is y x0 x1) (ascending y x0 x1) h
