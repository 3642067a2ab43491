use Rattle.std.proofs.Common.{rules, sym, ◌∙◌, ◌≡◌}
use Rattle.table_faults.proofs.Told.{ended-cr, ended-bare, ended_none}
use Rattle.table_faults.proofs.check_ended.Goals as goal

pub returns-in-Some-eq13-default : goal.returns-in-Some-eq13-default
returns-in-Some-eq13-default c =
    let w = c.in-Some-eq13-default in
    c.check_line.ensures ∙ sym (ended-cr c.args.s c.args.text.now w.line.now w.field-0-0.now w.ensures.cases.0 w.field-0-0-test)

pub returns-in_default : goal.returns-in_default
returns-in_default c =
    let last = c.in_default.field-0 in
    let e = rw c.in_default.is at c.split_last.ensures.cases in
    let other : last.0.now ≡ 13 → ⊥ = λ e. search rules in
    sym (ended-bare c.args.s c.args.text.now last.1.now last.0.now e.0 other)

pub returns-in_default-2 : goal.returns-in_default-2
returns-in_default-2 c =
    let e = c.split_last.ensures.cases in
    sym (ended_none c.args.s c.args.text.now (rw c.in_default.is at e))
