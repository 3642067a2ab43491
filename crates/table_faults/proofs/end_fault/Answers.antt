use Rattle.std.proofs.Common.{sym, ◌∙◌, ap}
use Rattle.std.specs.Option.{is_some}
use borrow.Author.Tests.{eqb-true, eqb-false}
use Rattle.table_faults.proofs.Told.{end-start, end_rows, end-line}
use Rattle.table_faults.proofs.Facts.{end-fault}
use Rattle.table_faults.proofs.end_fault.Goals as goal

pub returns-then-not-is_empty-clause-fault : goal.returns-then-not-is_empty-clause-fault
returns-then-not-is_empty-clause-fault c =
    c.err.ensures.value ∙ c.check_line.ensures ∙ sym (end-line c.args.s c.args.bytes.now (eqb-false _ _ (sym c.is_empty.ensures ∙ c.if-not-is_empty.true)))

pub returns-then-not-is_empty-clause-refused : goal.returns-then-not-is_empty-clause-refused
returns-then-not-is_empty-clause-refused c =
    let e = returns-then-not-is_empty-clause-fault c in
    ap is_some e ∙ end-fault c.args.s c.args.bytes.now

pub returns-in-Start-clause-fault : goal.returns-in-Start-clause-fault
returns-in-Start-clause-fault c =
    rw c.in-Start.is (sym (end-start c.args.bytes.now (eqb-true _ _ (sym c.is_empty.ensures ∙ c.if-not-is_empty.false))))

pub returns-in-Rows-clause-fault : goal.returns-in-Rows-clause-fault
returns-in-Rows-clause-fault c =
    rw c.in-Rows.is (sym (end_rows c.in-Rows.field-0 c.args.bytes.now (eqb-true _ _ (sym c.is_empty.ensures ∙ c.if-not-is_empty.false))))
