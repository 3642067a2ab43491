-- What the number of a trace says.
use mathlib.Core.Path.{◌≡◌, refl}
use mathlib.Core.Bool.{true, false}
use mathlib.Core.List.{List}
use Prim.Native.Nat.{ℕ, ◌≤◌}
use native.Mathlib.Omega.{arith}
use borrow.Author.Tests.{not-false, ltb-false, leb-true, eqb-true}
use lib.Dec.{eqb, leb}
use lib.ListN.{length}
use lib.Ieee.{Float}
use Rattle.refusal.specs.Refusal.{first_of, ascending_from}
use Rattle.refusal.proofs.RefusalLaws.{lowest_by, none-by, applies_for}
use Rattle.refusal.proofs.Bools.{both, all3}
use Rattle.limits.specs.Limits.{max_frames, exact_index}
use Rattle.row_record.specs.Record.{size}
use Rattle.rt_record.specs.RtRecord.{rt_size}
use Rattle.rt_fallback.specs.FallbackNumber.{fallback_lengths, fallback_sizes, fallback_checks, fallback_number}
use Rattle.rt_fallback.specs.FallbackNumberLaws.{FallbackLowest}

module _ (trace : List Float) (ids : List ℕ) (times : List Float) (peak : List ℕ) (frac : Float) (room : ℕ) where
  pub number_is : fallback_number trace ids times peak frac room ≡ first_of (fallback_checks trace ids times peak frac room)
  unfolding fallback_number
  number_is = refl

  ascending : ascending_from 0 (fallback_checks trace ids times peak frac room) ≡ true
  unfolding ascending_from
  ascending = refl

  -- where it is 0, the check with the number n does not apply
  none-for : (n : ℕ) → fallback_number trace ids times peak frac room ≡ 0 → applies_for n (fallback_checks trace ids times peak frac room) ≡ false
  none-for n e = none-by n (fallback_checks trace ids times peak frac room) number_is ascending e

-- it is the lowest that applies
pub number-lowest : FallbackLowest
number-lowest trace ids times peak frac room h =
    lowest_by (fallback_checks trace ids times peak frac room) (number_is trace ids times peak frac room) (ascending trace ids times peak frac room) h

-- ---- what holds of a trace to which no number applies

pub record Ready (trace times : List Float) (peak : List ℕ) (room : ℕ) : Type 0 where
  pub record-long : length peak ≡ size
  pub times_long : length trace ≤ length times
  pub short : length trace ≤ exact_index
  pub room-long : rt_size ≤ room

-- where number 1 does not apply
pub lengths : (trace times : List Float) (peak : List ℕ) → fallback_lengths trace times peak ≡ true → (length peak ≡ size) × (length trace ≤ length times)
unfolding fallback_lengths
lengths trace times peak e =
    let l = both (eqb (length peak) size) e in (eqb-true (length peak) size l.0, leb-true (length trace) (length times) l.1)

pub ready : (trace : List Float) (ids : List ℕ) (times : List Float) (peak : List ℕ) (frac : Float) (room : ℕ)
    → fallback_number trace ids times peak frac room ≡ 0 → Ready trace times peak room
unfolding fallback_sizes
ready trace ids times peak frac room e =
    let l = lengths trace times peak (not-false _ (none-for trace ids times peak frac room 1 e)) in
    let s = all3 (leb (length trace) max_frames) (not-false _ (none-for trace ids times peak frac room 2 e)) in
    record {
      record-long = l.0;
      times_long = l.1;
      short = omega (arith, leb-true (length trace) max_frames s.0);
      room-long = ltb-false room rt_size (none-for trace ids times peak frac room 20 e);
    }
