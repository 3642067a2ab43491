use Rattle.std.proofs.Common.{rules, tests, ◌≡◌, false, eqb}
use Rattle.std.specs.Option.{MatchOption}
use Rattle.table_text.specs.Table.{cr}
use Rattle.table_text.proofs.Laws.{cr-last}
use Rattle.table_text.proofs.ends_in_cr.Goals as goal

pub returns : goal.returns
returns c =
    let r = c.is_some_and.result in
    let m : MatchOption c.last.result (r ≡ false) (λ x. r ≡ eqb x.now cr) = search (rules, tests) in
    cr-last c.args.text.now c.last.result r c.last.ensures.value m
