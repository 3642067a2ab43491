use mathlib.Core.Path.{◌≡◌, sym, ◌∙◌, subst}
use mathlib.Core.Bool.{Bool, true, false, cond}
use mathlib.Core.List.{◌++◌}
use Prim.Native.Nat.{◌<◌, ◌≤◌}
use native.Mathlib.Omega.{arith}
use borrow.Author.Tests.{ltb-true, ltb-false}
use lib.ListN.{drop}
use Rattle.std.specs.Prelude.{Err}
use Rattle.std.specs.Bool.{then_some}
use Rattle.refusal.specs.declared.Refusal.TheVariants.{Identity}
use Rattle.refusal.specs.Numbered.{number_of}
use Rattle.refusal.proofs.NumberedLaws.{number_of-positive}
use Rattle.stitch_peaks.specs.PeakList.{peaks_of}
use Rattle.stitch_matching.specs.declared.StitchParams.{StitchParams}
use Rattle.stitch_distinct.specs.Distinct.{by_identity, distinct_ids}
use Rattle.stitch.specs.StitchNumber.{count_in, peaks_in, other_number}
use Rattle.stitch.specs.Answer.{Lent, lent, lent_in, rooms_of, Answered}
use Rattle.stitch.proofs.StitchNumberLaws.{where-distinct, where-lower, where-repeated, not-many}
use Rattle.stitch.proofs.Laws.{told-or-not, params-are, before-identity, Checked, checked, put_first, answered, refused}
use Rattle.stitch.proofs.inner.stitch_told.Goals.{In-Ok, After-lt}
use Rattle.stitch.proofs.inner.stitch_told.Goals as goal

-- where no number but 8 applies
module _ (t : In-Ok) where
  abbrev lists : Lent
  lists = lent_in t.args.lists.now

  none : (told : Bool) (p : StitchParams) → t.args.params ≡ then_some told p → other_number told t.args.list.now p (rooms_of lists) ≡ 0
  none told p e = sym (rw t.of.ensures at (t.in-Ok.ensures.number told p e))

  room : Checked t.args.list.now (rooms_of lists)
  room = let g = told-or-not t.args.params in checked g.0 t.args.list.now g.1 (rooms_of lists) (none g.0 g.1 g.2)

  read : peaks_of t.of-records.result.words.now t.of-records.result.count ≡ peaks_in t.args.list.now
  read = rw (t.of-records.ensures.words, t.of-records.ensures.count)

pub put_by_identity-requires : goal.put_by_identity-requires
put_by_identity-requires c = let r = room (goal.at.put_by_identity-requires c).In-Ok in let k = c.of-records.ensures.count in (omega (arith, k, r.few), omega (arith, k, r.order))

pub stitch_peaks-requires : goal.stitch_peaks-requires
stitch_peaks-requires c =
    let l = c.args.list.now in
    let p = c.put_by_identity in
    let w = (goal.at.stitch_peaks-requires c).In-Ok in
    let r = room w in
    let k = c.of-records.ensures.count in
    let given = c.of-records.result in
    let found : p.new.order ≡ cond p.result (by_identity (peaks_of given.words.now given.count) ++ drop given.count c.args.lists.now.order.now) c.args.lists.now.order.now = p.ensures.order in
    let ordered : p.new.order ≡ by_identity (peaks_in l) ++ drop (count_in l) c.args.lists.now.order.now = rw (c.if-put_by_identity.true, read w, k) at found in
    rw (read w, k) (omega (arith, r.few), r.out, r.owners, omega (arith, r.order, p.auto.order), r.groups, r.keys, r.merged, (put_first l (count_in l) c.args.lists.now.order.now p.new.order ordered).0)

pub returns-then-put_by_identity-clause-answer : goal.returns-then-put_by_identity-clause-answer
returns-then-put_by_identity-clause-answer c =
    λ told q e.
    let x = c.args in
    let l = x.list.now in
    let before : Lent = lent_in x.lists.now in
    let p = c.put_by_identity in
    let w = (goal.at.returns-then-put_by_identity-clause-answer c).In-Ok in
    let k = c.of-records.ensures.count in
    let ordered : p.new.order ≡ by_identity (peaks_in l) ++ drop (count_in l) x.lists.now.order.now = rw (c.if-put_by_identity.true, read w, k) at p.ensures.order in
    let distinct : distinct_ids (peaks_in l) ≡ true = sym (rw (read w) at p.ensures.distinct) ∙ c.if-put_by_identity.true in
    let zero = sym (where-distinct told l q (rooms_of before) distinct) ∙ none w told q e in
    let kept = (put_first l (count_in l) x.lists.now.order.now p.new.order ordered).1 in
    let s = rw (read w, k) at c.stitch_peaks.ensures in
    rw (params-are told q c.in-Ok.params (sym e ∙ c.in-Ok.ensures.given))
    (answered told l c.in-Ok.params before _ c.stitch_peaks.result (rw (params-are told q c.in-Ok.params (sym e ∙ c.in-Ok.ensures.given)) at zero) s.stitched (s.order ∙ kept) s.groups s.keys s.merged)

pub returns-else-put_by_identity-clause-answer : goal.returns-else-put_by_identity-clause-answer
returns-else-put_by_identity-clause-answer c =
    λ told q e.
    let x = c.args in
    let l = x.list.now in
    let before : Lent = lent_in x.lists.now in
    let p = c.put_by_identity in
    let w = (goal.at.returns-else-put_by_identity-clause-answer c).In-Ok in
    let same : p.new.order ≡ x.lists.now.order.now = rw c.if-put_by_identity.false at p.ensures.order in
    let repeated : distinct_ids (peaks_in l) ≡ false = sym (rw (read w) at p.ensures.distinct) ∙ c.if-put_by_identity.false in
    let z = none w told q e in
    let eight = where-repeated told l q (rooms_of before) repeated (λ h. absurd (omega (arith, z, h))) in
    subst (λ o. Answered told l q before (lent x.lists.now.out.now x.lists.now.owners.now o x.lists.now.groups.now x.lists.now.keys.now x.lists.now.merged.now) (Err Identity)) (sym same) (refused Identity told l q before eight)

pub returns-then-lt-clause-answer : goal.returns-then-lt-clause-answer
returns-then-lt-clause-answer c =
    λ told p e.
    let l = c.args.list.now in
    let before : Lent = lent_in c.args.lists.now in
    let n : number_of c.in-Err.refusal ≡ other_number told l p (rooms_of before) = rw c.of.ensures at (c.in-Err.ensures.number told p e) in
    let some : number_of c.in-Err.refusal ≡ 0 → ⊥ = number_of-positive c.in-Err.refusal in
    let low = ltb-true (number_of c.in-Err.refusal) 8 (sym (c.lt.ensures ∙ before-identity c.in-Err.refusal) ∙ c.if-lt.true) in
    refused c.in-Err.refusal told l p before (n ∙ where-lower told l p (rooms_of before) (omega (arith, n, some)) (omega (arith, n, low)))

-- where another does, and none below 8
module _ (t : After-lt) (f : t.lt.result ≡ false) where
  abbrev lists-then : Lent
  lists-then = lent_in t.args.lists.now

  number : (told : Bool) (p : StitchParams) → t.args.params ≡ then_some told p → number_of t.in-Err.refusal ≡ other_number told t.args.list.now p (rooms_of lists-then)
  number told p e = rw t.of.ensures at (t.in-Err.ensures.number told p e)

  high : (told : Bool) (p : StitchParams) → t.args.params ≡ then_some told p → 0 < other_number told t.args.list.now p (rooms_of lists-then) → 8 ≤ other_number told t.args.list.now p (rooms_of lists-then)
  high told p e h = omega (arith, number told p e, ltb-false (number_of t.in-Err.refusal) 8 (sym (t.lt.ensures ∙ before-identity t.in-Err.refusal) ∙ f))

  read-then : peaks_of t.of-records.result.words.now t.of-records.result.count ≡ peaks_in t.args.list.now
  read-then = rw (t.of-records.ensures.words, t.of-records.ensures.count)

pub all_distinct-requires : goal.all_distinct-requires
all_distinct-requires c =
    let g = told-or-not c.args.params in
    let w = (goal.at.all_distinct-requires c).After-lt in
    omega (arith, c.of-records.ensures.count, not-many g.0 c.args.list.now g.1 (rooms_of (lent_in c.args.lists.now)) (high w c.if-lt.false g.0 g.1 g.2))

pub returns-then-all_distinct-clause-answer : goal.returns-then-all_distinct-clause-answer
returns-then-all_distinct-clause-answer c =
    λ told p e.
    let l = c.args.list.now in
    let before : Lent = lent_in c.args.lists.now in
    let w = (goal.at.returns-then-all_distinct-clause-answer c).After-lt in
    let distinct : distinct_ids (peaks_in l) ≡ true = sym (rw (read-then w c.if-lt.false) at c.all_distinct.ensures) ∙ c.if-all_distinct.true in
    refused c.in-Err.refusal told l p before (number w c.if-lt.false told p e ∙ where-distinct told l p (rooms_of before) distinct)

pub returns-else-all_distinct-clause-answer : goal.returns-else-all_distinct-clause-answer
returns-else-all_distinct-clause-answer c =
    λ told p e.
    let l = c.args.list.now in
    let before : Lent = lent_in c.args.lists.now in
    let w = (goal.at.returns-else-all_distinct-clause-answer c).After-lt in
    let repeated : distinct_ids (peaks_in l) ≡ false = sym (rw (read-then w c.if-lt.false) at c.all_distinct.ensures) ∙ c.if-all_distinct.false in
    refused Identity told l p before (where-repeated told l p (rooms_of before) repeated (high w c.if-lt.false told p e))
