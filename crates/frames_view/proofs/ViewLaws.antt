-- What the number of a frame's points says.
use mathlib.Core.Path.{◌≡◌, refl}
use mathlib.Core.Bool.{true, false}
use Prim.Native.Nat.{ℕ}
use Rattle.refusal.specs.Refusal.{first_of, ascending_from}
use Rattle.refusal.proofs.RefusalLaws.{lowest_by, none-by, applies_for}
use Rattle.frames_view.specs.declared.numbers.Room.{Room}
use Rattle.frames_view.specs.Answer.{Frame, view_checks, view_number}
use Rattle.frames_view.specs.ViewLaws.{ViewLowest}

module _ (limit : ℕ) (f : Frame) (room : Room) where
  number_is : view_number limit f room ≡ first_of (view_checks limit f room)
  unfolding view_number
  number_is = refl

  ascending : ascending_from 0 (view_checks limit f room) ≡ true
  unfolding ascending_from
  ascending = refl

  -- where it is 0, the check with the number n does not apply
  pub none-for : (n : ℕ) → view_number limit f room ≡ 0 → applies_for n (view_checks limit f room) ≡ false
  none-for n e = none-by n (view_checks limit f room) number_is ascending e

-- it is the lowest that applies
pub number-lowest : ViewLowest
number-lowest limit f room h = lowest_by (view_checks limit f room) (number_is limit f room) (ascending limit f room) h
