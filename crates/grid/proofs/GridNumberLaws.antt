-- What the number of a grid says.
use mathlib.Core.Path.{◌≡◌, refl}
use mathlib.Core.Bool.{true, false}
use Prim.Native.Nat.{ℕ}
use Rattle.refusal.specs.Refusal.{first_of, ascending_from}
use Rattle.refusal.proofs.RefusalLaws.{lowest_by, none-by, applies_for}
use Rattle.grid_rows.specs.Grid.{Grid}
use Rattle.grid.specs.GridNumber.{grid_checks, grid_number}
use Rattle.grid.specs.GridNumberLaws.{GridLowest}

pub number_is : (g : Grid) (rows room scratch : ℕ) → grid_number g rows room scratch ≡ first_of (grid_checks g rows room scratch)
unfolding grid_number
number_is g rows room scratch = refl

module _ (g : Grid) (rows room scratch : ℕ) where
  ascending : ascending_from 0 (grid_checks g rows room scratch) ≡ true
  unfolding ascending_from
  ascending = refl

  -- where it is 0, the check with the number n does not apply
  pub none-for : (n : ℕ) → grid_number g rows room scratch ≡ 0 → applies_for n (grid_checks g rows room scratch) ≡ false
  none-for n e = none-by n (grid_checks g rows room scratch) (number_is g rows room scratch) ascending e

-- it is the lowest that applies
pub number-lowest : GridLowest
number-lowest g rows room scratch h = lowest_by (grid_checks g rows room scratch) (number_is g rows room scratch) (ascending g rows room scratch) h
