-- What the number of the first call says.
use mathlib.Core.Path.{◌≡◌, refl}
use mathlib.Core.Bool.{true, false}
use mathlib.Core.List.{List}
use Prim.Native.Nat.{ℕ, ◌≤◌}
use borrow.Author.Tests.{not-false, eqb-true, ltb-false, leb-true}
use lib.Dec.{eqb, leb}
use lib.ListN.{length}
use lib.Ieee.{Float}
use Rattle.refusal.proofs.Bools.{both, all3, all5}
use Rattle.limits.specs.Limits.{max_frames}
use Rattle.row_params.specs.Params.{rising}
use Rattle.row_record.specs.Record.{peak_at, sound_tof, sound_frames, sound, all_sound}
use Rattle.row_record.specs.declared.ImPeak1D.{ImPeak1D}
use Rattle.refusal.specs.Refusal.{first_of, ascending_from}
use Rattle.refusal.proofs.RefusalLaws.{lowest_by, none-by, applies_for}
use Rattle.rt_params.specs.declared.RtExpandParams.{RtExpandParams}
use Rattle.expand_window.specs.Window.{window_checks, window_number}
use Rattle.expand_window.specs.WindowLaws.{WindowLowest}

module _ (peak ids : List ℕ) (times : List Float) (e : RtExpandParams) where
  pub number_is : window_number peak ids times e ≡ first_of (window_checks peak ids times e)
  unfolding window_number
  number_is = refl

  ascending : ascending_from 0 (window_checks peak ids times e) ≡ true
  unfolding ascending_from
  ascending = refl

  -- where it is 0, the check with the number n does not apply
  pub none-for : (n : ℕ) → window_number peak ids times e ≡ 0 → applies_for n (window_checks peak ids times e) ≡ false
  none-for n z = none-by n (window_checks peak ids times e) number_is ascending z

-- it is the lowest that applies
pub number-lowest : WindowLowest
number-lowest peak ids times e h = lowest_by (window_checks peak ids times e) (number_is peak ids times e) (ascending peak ids times e) h

-- ---- what holds where no number applies

-- frame numbers of a sound record are not reversed
pub sound-numbers : (p : ImPeak1D) → sound p ≡ true → p.frame_id_lo ≤ p.frame_id_hi
unfolding sound sound_frames
sound-numbers p h =
    let f = (all5 (sound_tof p) h).1 in
    leb-true p.frame_id_lo p.frame_id_hi (all3 (leb p.rt_lo p.rt_hi) f).2

first-sound : (l : List ℕ) → all_sound l 1 ≡ true → sound (peak_at l 0) ≡ true
unfolding all_sound
first-sound l h = h

pub record Ready (peak ids : List ℕ) (times : List Float) : Type 0 where
  pub one : length peak ≡ 27
  pub paired : length times ≡ length ids
  pub few : length ids ≤ max_frames
  pub rise : rising ids ≡ true
  pub sound : sound (peak_at peak 0) ≡ true

pub ready : (peak ids : List ℕ) (times : List Float) (e : RtExpandParams) → window_number peak ids times e ≡ 0 → Ready peak ids times
ready peak ids times e z =
    let n = none-for peak ids times e in
    let a = both (eqb (length peak) 27) (not-false _ (n 1 z)) in
    record {
      one = eqb-true (length peak) 27 a.0;
      paired = eqb-true (length times) (length ids) a.1;
      few = ltb-false max_frames (length ids) (n 2 z);
      rise = (both (rising ids) (not-false _ (n 7 z))).0;
      sound = first-sound peak (not-false _ (n 9 z));
    }
