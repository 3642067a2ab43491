-- What the number of a row says.
use mathlib.Core.Path.{◌≡◌, refl}
use mathlib.Core.Bool.{true, false}
use mathlib.Core.List.{List}
use Prim.Native.Nat.{ℕ}
use lib.Ieee.{Float}
use Rattle.refusal.specs.Refusal.{first_of, ascending_from}
use Rattle.refusal.proofs.RefusalLaws.{lowest_by, none-by, applies_for}
use Rattle.row_params.specs.declared.ImDetectParams.{ImDetectParams}
use Rattle.row_params.specs.declared.RowPlace.{RowPlace}
use Rattle.row_params.specs.declared.FrameBounds.{FrameBounds}
use Rattle.row.specs.RowNumber.{row_checks, row_number}
use Rattle.row.specs.RowNumberLaws.{RowLowest}

pub number_is : (y z : List Float) (r : RowPlace) (f : FrameBounds) (mobility : List Float) (p : ImDetectParams) (axis : List ℕ) (first room : ℕ) → row_number y z r f mobility p axis first room ≡ first_of (row_checks y z r f mobility p axis first room)
unfolding row_number
number_is y z r f mobility p axis first room = refl

module _ (y z : List Float) (r : RowPlace) (f : FrameBounds) (mobility : List Float) (p : ImDetectParams) (axis : List ℕ) (first room : ℕ) where
  ascending : ascending_from 0 (row_checks y z r f mobility p axis first room) ≡ true
  unfolding ascending_from
  ascending = refl

  -- where it is 0, the check with the number n does not apply
  pub none-for : (n : ℕ) → row_number y z r f mobility p axis first room ≡ 0 → applies_for n (row_checks y z r f mobility p axis first room) ≡ false
  none-for n e = none-by n (row_checks y z r f mobility p axis first room) (number_is y z r f mobility p axis first room) ascending e

-- it is the lowest that applies
pub number-lowest : RowLowest
number-lowest y z r f mobility p axis first room h =
    lowest_by (row_checks y z r f mobility p axis first room) (number_is y z r f mobility p axis first room) (ascending y z r f mobility p axis first room) h
