use Rattle.std.proofs.Common.{sym, ◌∙◌, ap, Some, arith}
use Rattle.table_faults.specs.declared.Fault.{Fault}
use Rattle.table_faults.proofs.Laws.{error}
use Rattle.table_faults.proofs.Told.{row_bad, row_many, row_count, row-past, row-none}
use Rattle.table_faults.proofs.check_row.Goals as goal

pub returns-in_err-fields : goal.returns-in_err-fields
returns-in_err-fields c =
    error c.from_residual.result _ c.from_residual.ensures ∙ sym (row_bad c.args.s c.args.line.now _ (sym c.in_err-fields.ensures.fault))

pub returns-then-fields-gt-MAX_FIELDS : goal.returns-then-fields-gt-MAX_FIELDS
returns-then-fields-gt-MAX_FIELDS c =
    let e = c.in_ok-fields.ensures in
    ap (λ n. Some (Fault.ManyFields n)) e.count
    ∙ sym (row_many c.args.s c.args.line.now (sym e.fault) (omega (arith, e.count, c.if-fields-gt-MAX_FIELDS.true)))

pub returns-then-s-fields : goal.returns-then-s-fields
returns-then-s-fields c =
    let e = c.in_ok-fields.ensures in
    ap (λ n. Some (Fault.OtherCount n c.args.s.count)) e.count
    ∙ sym (row_count c.args.s c.args.line.now (sym e.fault) (omega (arith, e.count, c.if-fields-gt-MAX_FIELDS.false)) (rw (← e.count) c.if-s-fields.true))

pub returns-then-s-gt-LAST_ROW : goal.returns-then-s-gt-LAST_ROW
returns-then-s-gt-LAST_ROW c =
    let e = c.in_ok-fields.ensures in
    sym (row-past c.args.s c.args.line.now (sym e.fault) (omega (arith, e.count, c.if-fields-gt-MAX_FIELDS.false))
    (rw (← e.count) c.if-s-fields.false) (omega (arith, c.if-s-gt-LAST_ROW.true)))

pub returns : goal.returns
returns c =
    let e = c.in_ok-fields.ensures in
    sym (row-none c.args.s c.args.line.now (sym e.fault) (omega (arith, e.count, c.if-fields-gt-MAX_FIELDS.false))
    (rw (← e.count) c.if-s-fields.false) (omega (arith, c.if-s-gt-LAST_ROW.false)))
