use mathlib.Core.Path.{refl, sym, ◌∙◌}
use native.Mathlib.Omega.{arith}
use lib.ListN.{drop}
use borrow.Author.Tests.{not-true, not-false}
use Rattle.refusal.proofs.Bools.{clash}
use Rattle.table_text.proofs.Lines.{lf-missing}
use Rattle.table_lines.proofs.Laws.{put-none, next_past}
use Rattle.table_lines.proofs.inner.put_lines.Goals as goal

pub loop-out-init : goal.loop-out-init
loop-out-init c = (refl, refl, refl, put-none c.args.s c.args.bytes.now c.args.out.now, next_past c.args.bytes.now c.args.seen c.requires.0)

pub returns-then-not-f : goal.returns-then-not-f
returns-then-not-f c =
    let l = c.loop-out in
    let p = c.put_next-f in record { put = p.ensures.put c.args.s c.args.out.now l.invariant.3; through = λ on room. clash p.result.goes_on on (not-true _ c.if-not-f.true) }

pub loop-out-smaller : goal.loop-out-smaller
loop-out-smaller c =
    let l = c.loop-out in
    let p = c.put_next-f in
    omega (arith, p.ensures.from_lt_from, (p.ensures.put c.args.s c.args.out.now l.invariant.3).from)

pub loop-out-preserved : goal.loop-out-preserved
loop-out-preserved c =
    let l = c.loop-out in
    let p = c.put_next-f in
    (p.auto.row ∙ l.invariant.0, p.auto.out ∙ l.invariant.1, not-false _ c.if-not-f.false, p.ensures.put c.args.s c.args.out.now l.invariant.3, refl)

pub returns-in_default : goal.returns-in_default
returns-in_default c =
    let l = c.loop-out in record { put = l.invariant.3; through = λ on room. lf-missing l.f.from (drop l.f.from c.args.bytes.now) (sym l.invariant.4 ∙ sym c.next_line.ensures ∙ c.in_default.is) }
