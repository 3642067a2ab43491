use Rattle.std.proofs.Common.{rules, tests, ◌≡◌, sym, ◌∙◌, not}
use Rattle.std.proofs.lemmas.Iterator.{YieldsList-from_slice}
use Rattle.std.proofs.lemmas.Iterator.Search.{position_from_yields_List}
use Rattle.std.specs.List.{position}
use Rattle.std.specs.Char.{is_ascii_digit}
use borrow.Author.Tests.{eqb-true, eqb-false}
use Rattle.table_faults.proofs.Told.{bad_empty, bad_byte, bad-long, bad-high}
use Rattle.table_faults.proofs.bad_field.Goals as goal
use Rattle.table_faults.proofs.bad_field.Goals.{After-position}

-- the first byte that is no digit
first : (c : After-position) → c.position.result ≡ position (λ b. not (is_ascii_digit b)) c.args.text.now
first c =
    position_from_yields_List (λ b. not (is_ascii_digit b)) _ _ c.position.result c.position.ensures.ran (YieldsList-from_slice c.args.text.now cc)
    (λ x b q k. search (rules, tests))

pub returns-then-is_empty : goal.returns-then-is_empty
returns-then-is_empty c = sym (bad_empty c.args.limit c.args.field c.args.at c.args.text.now (eqb-true _ _ (sym c.is_empty.ensures ∙ c.if-is_empty.true)))

pub returns-in-Some : goal.returns-in-Some
returns-in-Some c =
    let some = eqb-false _ _ (sym c.is_empty.ensures ∙ c.if-is_empty.false) in
    sym (bad_byte c.args.limit c.args.field c.args.at c.args.text.now some c.in-Some.i (sym (first (goal.at.returns-in-Some c).After-position) ∙ c.in-Some.is))

pub returns-then-text-gt8 : goal.returns-then-text-gt8
returns-then-text-gt8 c =
    let some = eqb-false _ _ (sym c.is_empty.ensures ∙ c.if-is_empty.false) in
    let none = sym (first (goal.at.returns-then-text-gt8 c).After-position) ∙ c.in_default.is in
    sym (bad-long c.args.limit c.args.field c.args.at c.args.text.now some none c.if-text-gt8.true)

pub returns : goal.returns
returns c =
    let some = eqb-false _ _ (sym c.is_empty.ensures ∙ c.if-is_empty.false) in
    let none = sym (first (goal.at.returns c).After-position) ∙ c.in_default.is in
    sym (bad-high c.args.limit c.args.field c.args.at c.args.text.now some none c.if-text-gt8.false)
