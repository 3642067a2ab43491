use Rattle.std.proofs.Common.{◌≡◌, sym, ◌<◌, length, arith}
use Rattle.refusal.proofs.NumberedLaws.{err-is}
use Rattle.expand_many.specs.Many.{Many}
use Rattle.expand_many.specs.Calls.{many_lent}
use Rattle.expand.specs.ExpandCall.{Lent, many_number}
use Rattle.expand.specs.Lists.{lent_in}
use Rattle.expand.proofs.CallLaws.{followed, as-many, ready, lendable, short, answered, refused}
use Rattle.expand.proofs.expand_many_im_peaks_along_rt.Goals.{In_ok-index}
use Rattle.expand.proofs.expand_many_im_peaks_along_rt.Goals as goal

abbrev call : In_ok-index → Many
call c = let g = c.args in many_lent g.run.now g.e g.peaks

abbrev lent : In_ok-index → Lent
lent c = let g = c.args in lent_in g.lent.now

none : (c : In_ok-index) → many_number (call c) (lent c) (length c.args.counts.now) ≡ 0
none c = sym c.in_ok-index.ensures.number

pub returns-in_err-index-clause-answer : goal.returns-in_err-index-clause-answer
returns-in_err-index-clause-answer c = let g = c.args in
    let m = many_lent g.run.now g.e g.peaks in
    let was = lent_in g.lent.now in
    rw (err-is c.from_residual.ensures.1) (refused m was g.counts.now c.in_err-index.field-0.0 c.in_err-index.ensures.number)

pub invariant_of-followed : goal.invariant_of-followed
invariant_of-followed c = let d = (goal.at.invariant_of-followed c).In_ok-index in
    record { followed = rw c.in_ok-index.ensures.same (followed (call d) (lent d) (length d.args.counts.now) (none d)) }

pub expand_lent-requires : goal.expand_lent-requires
expand_lent-requires c = let d = (goal.at.expand_lent-requires c).In_ok-index in
    let counts = length d.args.counts.now in
    let named : d.args.peaks.first < 4294967296 = omega (arith, c.ranges.peaks) in (
      rw (c.in_ok-index.ensures.same, as-many (call d) (lent d) counts (none d)) (ready (call d) (lent d) counts (none d) named),
      lendable (call d) (lent d) counts (none d),
      short (call d) (lent d) counts (none d),
    )

pub returns-clause-answer : goal.returns-clause-answer
returns-clause-answer c = let d = (goal.at.returns-clause-answer c).In_ok-index in
    let r = c.expand_lent in
    answered (call d) (lent d) (lent_in r.new.lent) d.args.counts.now r.new.counts r.result (none d) (rw (c.in_ok-index.ensures.same, as-many (call d) (lent d) (length d.args.counts.now) (none d)) at r.ensures.done)
    r.ensures.past
