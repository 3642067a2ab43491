use Rattle.std.proofs.Common.{sym, ap, ◌∙◌, ◌≡◌, ◌-◌, length, take, drop, arith}
use Rattle.std.proofs.lemmas.List.{take_rest}
use Rattle.table_faults.specs.Faults.{last_text, ended_fault, line_fault}
use Rattle.table_faults.proofs.Told.{last-none, last_ended, last-long, last-open}
use Rattle.table_faults.proofs.check_last.Goals as goal
use Rattle.table_faults.proofs.check_last.Goals.{After-line_start-2}

pub returns-in_default : goal.returns-in_default
returns-in_default c = sym (last-none c.args.s c.args.bytes.now c.in_default.ensures.cases)

pub returns-then-last-eq10 : goal.returns-then-last-eq10
returns-then-last-eq10 c =
    let w = c.in-Some in
    let text = w.text.now in
    let e = take_rest text c.line_start.result ∙ c.line_start.ensures.behind in
    c.check_ended.ensures ∙ ap (ended_fault c.args.s) e ∙ sym (last_ended c.args.s c.args.bytes.now text w.field-0-0.now w.ensures.cases.0 c.if-last-eq10.true)

line : (c : After-line_start-2) → take (length c.args.bytes.now - c.line_start-2.result) (drop c.line_start-2.result c.args.bytes.now) ≡ last_text c.args.bytes.now
line c = take_rest c.args.bytes.now c.line_start-2.result ∙ c.line_start-2.ensures.behind

pub returns-then-line-ge-NO_END : goal.returns-then-line-ge-NO_END
returns-then-line-ge-NO_END c =
    let w = c.in-Some in
    let long = rw (line (goal.at.returns-then-line-ge-NO_END c).After-line_start-2) at c.if-line-ge-NO_END.true in
    sym (last-long c.args.s c.args.bytes.now w.text.now w.field-0-0.now w.ensures.cases.0 c.if-last-eq10.false (omega arith))

pub returns : goal.returns
returns c =
    let w = c.in-Some in
    let e = line (goal.at.returns c).After-line_start-2 in
    let short = rw e at c.if-line-ge-NO_END.false in
    c.check_line.ensures ∙ ap (line_fault c.args.s) e
    ∙ sym (last-open c.args.s c.args.bytes.now w.text.now w.field-0-0.now w.ensures.cases.0 c.if-last-eq10.false (omega arith))
