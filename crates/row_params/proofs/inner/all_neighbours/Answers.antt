use Rattle.std.proofs.Common.{Bool, ◌&&◌, ◌∙◌, ap, sym, true, drop, rules, tests}
use Rattle.std.specs.List.{fold, zip}
use Rattle.std.proofs.lemmas.Iterator.{YieldsList-from_slice, YieldsList-from_zip}
use Rattle.std.proofs.lemmas.Iterator.Consumers.{fold_from_yields_List}
use Rattle.row_params.proofs.inner.all_neighbours.Goals as goal

pub returns : goal.returns
returns g c says said =
    let list = c.args.list.now in
    let rest = c.in-Some.rest.now in
    fold_from_yields_List _ (λ all p. all && says p.0 p.1) _ _ c.fold.ensures.ran
    (YieldsList-from_zip (YieldsList-from_slice list cc) (YieldsList-from_slice rest cc)) (λ all p b q k. search (rules, tests, said))
    ∙ ap (λ r. fold (λ (all : Bool) (p : _ × _). all && says p.0 p.1) true (zip list r)) (sym (ap (drop 1) c.in-Some.ensures.cases.0))
