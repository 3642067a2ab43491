-- What the number of a row to smooth says.
use mathlib.Core.Path.{◌≡◌, refl}
use mathlib.Core.Bool.{true, false}
use mathlib.Core.List.{List}
use Prim.Native.Nat.{ℕ}
use lib.Ieee.{Float}
use Rattle.refusal.specs.Refusal.{first_of, ascending_from}
use Rattle.refusal.proofs.RefusalLaws.{lowest_by, none-by, applies_for}
use Rattle.row_smoothing.specs.Smoothing.{smooth_checks, smooth_number}
use Rattle.row_smoothing.specs.SmoothLaws.{SmoothLowest}

pub number_is : (v ws : List Float) (scratch : ℕ) → smooth_number v ws scratch ≡ first_of (smooth_checks v ws scratch)
unfolding smooth_number
number_is v ws scratch = refl

module _ (v ws : List Float) (scratch : ℕ) where
  ascending : ascending_from 0 (smooth_checks v ws scratch) ≡ true
  unfolding ascending_from
  ascending = refl

  -- where it is 0, the check with the number n does not apply
  pub none-for : (n : ℕ) → smooth_number v ws scratch ≡ 0 → applies_for n (smooth_checks v ws scratch) ≡ false
  none-for n z = none-by n (smooth_checks v ws scratch) (number_is v ws scratch) ascending z

-- it is the lowest that applies
pub number-lowest : SmoothLowest
number-lowest v ws scratch h = lowest_by (smooth_checks v ws scratch) (number_is v ws scratch) (ascending v ws scratch) h
