-- What the number of a call says.
use mathlib.Core.Path.{◌≡◌, refl}
use mathlib.Core.Bool.{true, false}
use Prim.Native.Nat.{ℕ}
use Rattle.refusal.specs.Refusal.{first_of, ascending_from}
use Rattle.refusal.proofs.RefusalLaws.{lowest_by, none-by, applies_for}
use Rattle.rt_peaks.specs.Trace.{RtCall, rt_checks, rt_number}
use Rattle.rt_peaks.specs.TraceLaws.{RtLowest}

pub number_is : (c : RtCall) (room scratch : ℕ) → rt_number c room scratch ≡ first_of (rt_checks c room scratch)
unfolding rt_number
number_is c room scratch = refl

module _ (c : RtCall) (room scratch : ℕ) where
  ascending : ascending_from 0 (rt_checks c room scratch) ≡ true
  unfolding ascending_from
  ascending = refl

  -- where it is 0, the check with the number n does not apply
  pub none-for : (n : ℕ) → rt_number c room scratch ≡ 0 → applies_for n (rt_checks c room scratch) ≡ false
  none-for n e = none-by n (rt_checks c room scratch) (number_is c room scratch) ascending e

pub number-lowest : RtLowest
number-lowest c room scratch h = lowest_by (rt_checks c room scratch) (number_is c room scratch) (ascending c room scratch) h
