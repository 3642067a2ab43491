use Rattle.std.proofs.Common.{sym, ◌∙◌}
use borrow.Author.Tests.{eqb-true, eqb-false}
use Rattle.table_faults.proofs.Told.{line-blank, line-params, line_row}
use Rattle.table_faults.proofs.check_line.Goals as goal

pub returns-then-is_empty : goal.returns-then-is_empty
returns-then-is_empty c = sym (line-blank c.args.s c.args.line.now (eqb-true _ _ (sym c.is_empty.ensures ∙ c.if-is_empty.true)))

pub returns-in-Start : goal.returns-in-Start
returns-in-Start c =
    rw c.in-Start.is (c.check_params.ensures ∙ sym (line-params c.args.line.now (eqb-false _ _ (sym c.is_empty.ensures ∙ c.if-is_empty.false))))

pub returns-in-Rows : goal.returns-in-Rows
returns-in-Rows c =
    rw c.in-Rows.is (c.check_row.ensures ∙ sym (line_row c.in-Rows.t c.args.line.now (eqb-false _ _ (sym c.is_empty.ensures ∙ c.if-is_empty.false))))
