use borrow.Author.Tests.{leb-true}
use Rattle.refusal.proofs.Bools.{both}
use Rattle.table_text.proofs.Laws.{digits-bound, number-start, number-none, number-next, number-bad, number-end, digits_more, some-if}
use Rattle.std.proofs.Common.{sym, ◌∙◌, ◌≤◌, leb, length, get_or, arith, lit<}
use Rattle.table_text.proofs.number.Goals as goal

pub returns-then-not-has_number_length : goal.returns-then-not-has_number_length
returns-then-not-has_number_length c = rw (number-none c.args.limit c.args.field.now (sym c.has_number_length.ensures ∙ c.if-not-has_number_length.true))

pub loop-b-init : goal.loop-b-init
loop-b-init c =
    let n = length c.args.field.now in
    let t = both (leb 1 n) (sym c.has_number_length.ensures ∙ c.if-not-has_number_length.false) in
    (lit< tt, number-start c.args.limit c.args.field.now (leb-true 1 n t.0) (leb-true n 8 t.1))

pub returns-then-not-is_ascii_digit : goal.returns-then-not-is_ascii_digit
returns-then-not-is_ascii_digit c =
    let o = c.loop-b in
    rw (number-bad c.args.limit c.args.field.now o.value o.b-index o.invariant.1 (omega arith) (sym c.is_ascii_digit.ensures.value ∙ c.if-not-is_ascii_digit.true))

pub with_digit-value-requires : goal.with_digit-value-requires
with_digit-value-requires c =
    let o = c.loop-b in
    let n = length c.args.field.now in
    let b = get_or c.args.field.now o.b-index 0 in
    let most : n ≤ 8 = leb-true n 8 (both (leb 1 n) (sym c.has_number_length.ensures ∙ c.if-not-has_number_length.false)).1 in
    let e = sym c.is_ascii_digit.ensures.value ∙ c.if-not-is_ascii_digit.false in
    (digits-bound o.value o.b-index 7 o.invariant.0 (omega arith), leb-true 48 b (both (leb 48 b) e).0)

pub loop-b-preserved : goal.loop-b-preserved
loop-b-preserved c =
    let o = c.loop-b in
    let b = get_or c.args.field.now o.b-index 0 in
    let e = sym c.is_ascii_digit.ensures.value ∙ c.if-not-is_ascii_digit.false in
    rw c.with_digit-value.ensures (
      digits_more o.value o.b-index b o.invariant.0 (leb-true b 57 (both (leb 48 b) e).1),
      number-next c.args.limit c.args.field.now o.value o.b-index o.invariant.1 (omega arith) e,
    )

pub returns : goal.returns
returns c =
    let o = c.loop-b in
    let e = number-end c.args.limit c.args.field.now o.value o.b-index o.invariant.1 (omega arith) in
    rw (c.then_some.ensures, e.0, e.1) (some-if _ _)
