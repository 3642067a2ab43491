use mathlib.Core.Path.{refl, sym, ◌∙◌}
use borrow.Author.Tests.{eqb-true, eqb-false}
use Rattle.table_text.proofs.Laws.{nonzero}
use native.Mathlib.Omega.{arith}
use Rattle.table_lines.proofs.Laws.{text-last, text-none}
use Rattle.table_lines.proofs.inner.put_last.Goals as goal

pub returns-then-not-is_empty : goal.returns-then-not-is_empty
returns-then-not-is_empty c =
    let x = c.args.bytes.now in
    let p = c.put_line in
    let e = p.ensures in
    rw (text-last c.args.s x c.requires.0 (nonzero _ (eqb-false _ _ (sym c.is_empty.ensures ∙ c.if-not-is_empty.true))), ← e.verdict) (record { count = e.count; room = e.room; front = e.front })

pub returns-in-Start : goal.returns-in-Start
returns-in-Start c =
    let p = c.put_refusal in
    let t = text-none c.args.bytes.now (eqb-true _ _ (sym c.is_empty.ensures ∙ c.if-not-is_empty.false)) in
    rw (c.in-Start.is, t.0) (record { count = p.ensures.value; room = omega (arith, p.ensures.value); front = p.ensures.out_after })

pub returns-in-Rows : goal.returns-in-Rows
returns-in-Rows c =
    let t = text-none c.args.bytes.now (eqb-true _ _ (sym c.is_empty.ensures ∙ c.if-not-is_empty.false)) in
    rw (c.in-Rows.is, t.1 c.in-Rows.field-0) (record { count = refl; room = omega arith; front = refl })
