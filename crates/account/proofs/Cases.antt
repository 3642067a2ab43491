-- What the functions hand back for the worked cases.
use Rattle.refusal.specs.declared.Refusal.{Refusal}
use Rattle.refusal.proofs.NumberedLaws.{which as told_by}
use Rattle.std.specs.Prelude.{Result, Ok}
use mathlib.Core.Path.{◌≡◌, refl, sym, ap, ◌∙◌, subst}
use mathlib.Core.Bool.{true}
use mathlib.Core.List.Memᴰ
use mathlib.Core.List.{List, [], ◌∷◌, ◌++◌}
use mathlib.Core.Logic.{⊎_elim}
use Prim.Native.Nat.{ℕ, ◌+◌, ◌-◌, ◌*◌, ◌<◌}
use native.Mathlib.Omega.{arith}
use lib.ListN.{length, get_or, drop}
use lib.Ieee.{Float}
use Rattle.refusal.proofs.Bools.{clash}
use Rattle.numeric.specs.Arith.{index_f}
use Rattle.row_record.specs.Record.{size, peak_at}
use Rattle.grid_rows.specs.Grid.{listed_in, count_from, count_to, words_to}
use Rattle.grid.specs.Answer.{number_for, Answered}
use Rattle.grid_laws.proofs.GridRecords.{count-step, rows-bear}
use Rattle.stitch_passes.specs.Account.{places_of, members_of}
use Rattle.sort_digits.specs.Sorted.{up_to}
use Rattle.sort_digits.proofs.SortedLaws.{at-index}
use Rattle.stitch_matching.specs.Cases.{asked}
use Rattle.stitch_passes.specs.Stitching.{stitched}
use Rattle.stitch.specs.StitchNumber.{peaks_in}
use Rattle.stitch.specs.Answer.{Lent as StitchLists, Answered as StitchAnswered, number_for as number_of}
use Rattle.stitch_laws.specs.Cases.{list, before, accepted, peaks, two, answered}
use Rattle.rt_choice.specs.Times.{near_in_time}
use Rattle.rt_apex.specs.InTime.{apex_time}
use Rattle.rt_record.specs.RtRecord.{rt_peak_at}
use Rattle.expand.specs.ExpandCall.{Lent, one_number, peaks_of, OneAnswered}
use Rattle.expand_peak.specs.Expanded.{searched}
use Rattle.expand_laws.specs.ExpandAccount.{smooth_over, listed_over, Ordinary, ExpandAccounted}
use Rattle.expand_laws.proofs.Calls.{one-accounted}
use Rattle.account.specs.Demand3.{qualifying_over, chosen_over, OrdinaryPath, TooClose, ListedFrame}
use Rattle.account.specs.Cases as case
use Rattle.account.specs.Cases.{grid, run, params, peak, p, weights, lists, GridCase, StitchCase, RunCase, SomethingToExplain}

-- ---- the grid

one-listed : count_to grid 1 ≡ 1
unfolding count_from
one-listed = let none : count_to grid 0 ≡ 0 = refl in omega (arith, count-step grid 0, none, ap length case.grid-listed)

-- its record bears index 5
listed-five : (rest : List ℕ) → (peak_at (words_to grid 1 ++ rest) 0).scan ≡ 5
unfolding count_from
listed-five rest =
    let l : 0 < length (listed_in grid 0) = subst (λ (ks : List ℕ). 0 < length ks) (sym case.grid-listed) (omega arith) in
    (rows-bear grid 1 rest 0 0 (omega arith) l).apex ∙ ap (λ (ks : List ℕ). get_or ks (length ks - 1 - 0) 0) case.grid-listed

-- ---- the run

smooth-is : smooth_over run params weights p 0 8 ≡ case.trace
smooth-is = case.run-smooth

qualifying-are : qualifying_over run params weights p 0 8 ≡ 1 ∷ 5 ∷ 7 ∷ []
qualifying-are = rw (smooth-is, case.run-raw, case.run-floor) case.run-qualifying

chosen-are : chosen_over run params weights p 0 8 ≡ 5 ∷ 1 ∷ []
chosen-are = rw (smooth-is, case.run-raw, case.run-floor) case.run-chosen

listed-are : listed_over run params weights p 0 8 ≡ 5 ∷ []
unfolding searched
listed-are = rw (smooth-is, case.run-raw, case.run-floor) case.run-listed

ordinary : Ordinary run params weights p 0 8
ordinary = record { window = case.run-window; long = omega arith; some = rw listed-are (omega arith) }

on-path : OrdinaryPath run params weights p 0 8
on-path =
    record {
      window = case.run-window;
      long = omega arith;
      apex = 5;
      chosen = rw chosen-are (at-index (5 ∷ 1 ∷ []) 0 (omega arith));
      shares = rw (chosen-are, smooth-is, case.run-raw) case.run-share-best;
    }

close : TooClose run params weights p 0 8 7
close =
    record {
      to = 5;
      other = λ e. omega arith;
      chosen = rw chosen-are (at-index (5 ∷ 1 ∷ []) 0 (omega arith));
      no_lower = rw smooth-is case.run-lower;
      close = rw smooth-is case.run-close;
    }

far : TooClose run params weights p 0 8 1 → ⊥
far t =
    let c = rw smooth-is at t.close in
    ⊎_elim
    (λ (e : t.to ≡ 5). clash (near_in_time (apex_time case.trace case.seconds) (index_f 3) 1 5) (rw e at c) case.run-far)
    (λ m. ⊎_elim (λ (e : t.to ≡ 1). t.other e) (λ n. absurd (Memᴰ.not-nil n)) (Memᴰ.cases_cons m))
    (Memᴰ.cases_cons (rw chosen-are at t.chosen))

module _ (is : Lent) (answer : Result ℕ Refusal) (a : OneAnswered run params peak weights 0 lists is answer) where
  abbrev count : ℕ
  count = length (peaks_of run params peak weights 0)

  is-count : answer ≡ Ok count
  is-count = rw case.run-accepted at (told_by ℕ answer (one_number run params peak weights 0 lists) count a.answered)

  -- its records, from the account of expansion
  abbrev records : ExpandAccounted run params weights p 0 8 0 count is.out
  records = (one-accounted run params peak weights 0 lists is count (subst (OneAnswered run params peak weights 0 lists is) is-count a)).ordinary 0 8 ordinary

  one-record : count ≡ 1
  one-record = records.counted ∙ ap length listed-are

  only-five : (frame : ℕ) → ListedFrame is.out 0 1 frame → frame ≡ 5
  only-five frame l =
      let low = l.among in
      let first : l.place ≡ 0 = omega arith in
      let f = records.frames 0 (omega (arith, one-record)) in
      let five : get_or (listed_over run params weights p 0 8) 0 0 ≡ 5 = ap (λ (ks : List ℕ). get_or ks 0 0) listed-are in
      sym l.bears-frame ∙ ap (λ (k : ℕ). (rt_peak_at is.out (0 + k)).apex.rt_idx) first ∙ f ∙ ap (λ (i : ℕ). 0 + i) five

  run-case : RunCase is answer
  run-case =
      record {
        answered = is-count ∙ ap (λ (n : ℕ). Ok n) one-record;
        ordinary = on-path;
        qualify = rw qualifying-are (at-index (1 ∷ 5 ∷ 7 ∷ []) 0 (omega arith), at-index (1 ∷ 5 ∷ 7 ∷ []) 2 (omega arith));
        not_listed = ((λ l. omega (arith, only-five 1 l)), (λ l. omega (arith, only-five 7 l)));
        close = (close, rw (chosen-are, smooth-is, case.run-raw) case.run-share-met);
        small = (far, rw (chosen-are, smooth-is, case.run-raw) case.run-share);
      }

grid-case : (out₀ out : List ℕ) (s₀ s : List Float) (answer : Result ℕ Refusal) → length out₀ ≡ 3 * size → length s₀ ≡ 7 → Answered grid 1 out₀ out s₀ s answer → GridCase out answer
grid-case out₀ out s₀ s answer l m a =
    let e : number_for grid 1 out₀ s₀ ≡ 0 = rw (l, m) case.grid-accepted in
    let words : out ≡ words_to grid 1 ++ drop (count_to grid 1 * size) out₀ = rw e at a.words in
    record {
      answered = (rw e at (told_by ℕ answer (number_for grid 1 out₀ s₀) (count_to grid 1) a.answered)) ∙ ap (λ (n : ℕ). Ok n) one-listed;
      qualifies = rw case.grid-qualifying (at-index (1 ∷ 3 ∷ 5 ∷ []) 0 (omega arith));
      not_listed = λ t.
          let low = t.among in
          let first : t.place ≡ 0 = omega arith in
          let is : (peak_at out 0).scan ≡ 5 = ap (λ (o : List ℕ). (peak_at o 0).scan) words ∙ listed-five (drop (count_to grid 1 * size) out₀) in
          let one : (peak_at out 0).scan ≡ 1 = ap (λ (k : ℕ). (peak_at out k).scan) (sym first) ∙ t.bears-index in
          omega (arith, is, one);
    }

stitch-case : (is : StitchLists) (answer : Result ℕ Refusal) → StitchAnswered true list (asked 2 10) before is answer → StitchCase is answer
unfolding members_of places_of up_to
stitch-case is answer a =
    record {
      answered = rw (accepted, peaks, two) at (told_by ℕ answer (number_of true list (asked 2 10) before) (length (stitched (asked 2 10) (peaks_in list))) a.answered);
      merged = rw ((answered is answer a).1, peaks) refl;
    }

pub cases : SomethingToExplain
cases = record { grids = grid-case; stitching = stitch-case; expansion = run-case }
