-- Laws of the number of a call on an index, and of what is left of it.
use mathlib.Core.Path.{◌≡◌, refl, sym, ◌∙◌}
use mathlib.Core.Bool.{true, false, not}
use mathlib.Core.Option.{none, some}
use mathlib.Core.List.{List, ◌++◌}
use Prim.Native.Nat.{ℕ}
use borrow.Author.Tests.{not-false, not-true, ne_eqb, eqb-true}
use lib.Dec.{ltb}
use lib.ListN.{length, drop}
use lib.Ieee.{Float}
use Rattle.refusal.specs.Refusal.{first_of, ascending_from}
use Rattle.refusal.proofs.RefusalLaws.{lowest_by, none-by, applies_for}
use Rattle.refusal.proofs.AnswersLaws.{says-number, says-values}
use Rattle.refusal.proofs.Bools.{both, all3}
use Rattle.frames_index.specs.declared.inner.Seen.{Seen}
use Rattle.frames_index.specs.declared.numbers.Further.{Further}
use Rattle.frames_index.specs.FrameIndex.{Index, Checked, agreeing, too_large, seen_in}
use Rattle.frames_index.specs.IndexNumber.{index_checks, index_number, Front}
pub use Rattle.frames_index.specs.IndexNumber.{Accepted}
use Rattle.frames_index.specs.IndexNumberLaws.{IndexLowest}

module _ (limit : ℕ) (ix : Index) (f : Further) where
  number_is : index_number limit ix f ≡ first_of (index_checks (seen_in limit ix) f)
  unfolding index_number
  number_is = refl

  ascending : ascending_from 0 (index_checks (seen_in limit ix) f) ≡ true
  unfolding ascending_from
  ascending = refl

  -- where it is 0, the check with the number n does not apply
  pub none-for : (n : ℕ) → index_number limit ix f ≡ 0 → applies_for n (index_checks (seen_in limit ix) f) ≡ false
  none-for n e = none-by n (index_checks (seen_in limit ix) f) number_is ascending e

-- it is the lowest that applies
pub number-lowest : IndexLowest
number-lowest limit ix f h = lowest_by (index_checks (seen_in limit ix) f) (number_is limit ix f) (ascending limit ix f) h

-- the number of what was seen
pub seen-number : (limit : ℕ) (ix : Index) (s : Seen) (f g : Further) (n : ℕ) → s ≡ seen_in limit ix → f ≡ g → n ≡ first_of (index_checks s f) → n ≡ index_number limit ix g
unfolding index_number
seen-number limit ix s f g n e d h = rw (e, d) at h

pub accepted : (limit : ℕ) (ix : Index) (f : Further) → index_number limit ix f ≡ 0 → Accepted ix f
unfolding seen_in
accepted limit ix f e =
    let one = both (agreeing ix) (not-false _ (none-for limit ix f 1 e)) in
    let lengths = all3 (ltb 0 (length ix.starts)) one.0 in
    let two = both (not (too_large ix)) (not-false _ (none-for limit ix f 2 e)) in
    let five = both (seen_in limit ix).scans (not-false _ (none-for limit ix f 5 e)) in
    record {
      some = lengths.0;
      offsets = eqb-true _ _ lengths.1;
      readings = eqb-true _ _ lengths.2;
      small = not-true (too_large ix) two.0;
      sound = not-false _ (none-for limit ix f 23 e);
      lengths = one.1;
      sizes = two.1;
      values = not-false _ (none-for limit ix f 4 e);
      axes = five.1;
      weights = not-false _ (none-for limit ix f 6 e);
      order = not-false _ (none-for limit ix f 7 e);
      records = not-false _ (none-for limit ix f 9 e);
      room = not-false _ (none-for limit ix f 20 e);
      scratch = not-false _ (none-for limit ix f 21 e);
      scale = not-false _ (none-for limit ix f 22 e);
    }

-- its index is a checked one
pub checked : (ix : Index) (f : Further) → Accepted ix f → Checked ix
checked ix f a = record { sound = a.sound; offsets = a.offsets; readings = sym a.readings }

-- ---- what is left

pub filled : (number n : ℕ) (sums was is : List Float) → number ≡ 0 → n ≡ length sums → is ≡ sums ++ drop n was
    → Front number sums was is (record { number = 0; values = some n })
filled number n sums was is e l h = record { answered = says-values (length sums) (sym e) refl l; out = rw e (rw l at h) }

pub unfilled : (number k : ℕ) (sums was : List Float) → k ≡ number → (k ≡ 0 → ⊥) → Front number sums was was (record { number = k; values = none })
unfilled number k sums was e h = record { answered = says-number (length sums) e h; out = rw (ne_eqb number 0 (λ z. h (e ∙ z))) }
