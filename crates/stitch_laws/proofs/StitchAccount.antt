-- The stitched records and the owner column of a list that was accepted account for its peaks.
use mathlib.Core.Path.{◌≡◌, refl, sym, ap, ◌∙◌}
use mathlib.Core.Bool.{Bool, true, false, cond}
use mathlib.Core.List.{List}
use Prim.Native.Nat.{ℕ, ◌*◌, ◌/◌, ◌%◌, ◌<◌}
use native.Mathlib.Omega.{arith}
use lib.Dec.{eqb}
use lib.ListN.{length, length-append, length-map}
use borrow.Author.Tests.{eqb-true, eqb-false}
use Rattle.std.specs.Prelude.{Result, Ok, Err}
use Rattle.refusal.specs.declared.Refusal.{Refusal}
use Rattle.refusal.proofs.NumberedLaws.{which as answer-which}
use Rattle.stitch_peaks.proofs.PeakListLaws.{peaks-length, peaks-fit, words-length}
use Rattle.sort_digits.specs.Sorted.{up_to}
use Rattle.sort_digits.proofs.UpTo.{upto-length}
use Rattle.stitch_matching.specs.declared.StitchParams.{StitchParams}
use Rattle.stitch_distinct.proofs.DistinctLaws.{distinct-tells}
use Rattle.stitch_passes.specs.Stitching.{stitched, owner_of, owners_of}
use Rattle.stitch_passes.proofs.Account.{left-account}
use Rattle.stitch.specs.StitchNumber.{count_in, peaks_in}
use Rattle.stitch.specs.Answer.{Lent, rooms_of, number_for, Written}
use Rattle.stitch.proofs.StitchNumberLaws.{number-under}
use Rattle.stitch.proofs.Laws.{accepted}
use Rattle.c_grid_stitch.specs.Entry.{entry_answer}
use Rattle.stitch_laws.specs.StitchAccount.{Accounted, AcceptedAccounted, CountAccounts, CallAccounts}

-- what is written where no number applies
written-account : (told : Bool) (list : List ℕ) (params : StitchParams) (was is : Lent) → number_for told list params was ≡ 0
    → Written params (peaks_in list) was is → Accounted list is (length (stitched params (peaks_in list)))
written-account told list params was is e w =
    let ps = peaks_in list in
    let found = stitched params ps in
    let few : length ps ≡ count_in list = peaks-length list (count_in list) in
    let wide : length (owners_of params ps) ≡ length ps = length-map (up_to (length ps)) (owner_of params ps) ∙ upto-length (length ps) in
    record {
      records = rw w.records (simp (length-append, words-length found) (omega arith));
      column = rw w.column (simp (length-append, wide) (omega (arith, few)));
      account =
          left-account params ps was.out was.owners (length found) is.out is.owners
          (record { counted = refl; records = w.records; column = w.column })
          (peaks-fit list (count_in list))
          (distinct-tells ps (accepted told list params (rooms_of was) e).distinct-ids);
    }

pub accepted-accounted : AcceptedAccounted
accepted-accounted told list params was is answer a e =
    record {
      count = length (stitched params (peaks_in list));
      answered = rw e at (answer-which ℕ answer (number_for told list params was) (length (stitched params (peaks_in list))) a.answered);
      accounted = written-account told list params was is e (a.accepted e);
    }

-- the count of an answer that is one
count_of : Result ℕ Refusal → ℕ
count_of (Ok count) = count
count_of (Err e) = 0

pub count-accounts : CountAccounts
unfolding count_of
count-accounts told list params was is count a =
    let b = accepted-accounted told list params was is (Ok count) a (sym (ap (λ s. s.number) a.answered)) in
    let e : count ≡ b.count = ap count_of b.answered in
    rw e b.accounted

-- ---- the C entry

-- every number is below 64, so that an answer whose remainder is 0 is that of a count
pub which : (number count r : ℕ) → number < 64 → r ≡ entry_answer number count → r % 64 ≡ 0 → (number ≡ 0) × (r / 64 ≡ count)
which number count r h e z = go (eqb number 0) refl e
  where
    go : (b : Bool) → eqb number 0 ≡ b → r ≡ cond b (count * 64) number → (number ≡ 0) × (r / 64 ≡ count)
    go true t f = (eqb-true number 0 t, omega arith)
    go false t f = absurd (eqb-false number 0 t (omega arith))

pub call-accounts : CallAccounts
call-accounts told list params was is r a z =
    let n = length (stitched params (peaks_in list)) in
    let w = which (number_for told list params was) n r (number-under told list params (rooms_of was)) a.answer z in
    rw w.1 (written-account told list params was is w.0 (a.accepted w.0))
