use Rattle.std.proofs.Common.{◌+◌, ◌-◌, take, drop, sym, subst, ◌∙◌, arith, rules, tests}
use Rattle.std.proofs.lemmas.Iterator.{YieldsList-from_slice}
use Rattle.std.proofs.lemmas.Iterator.Adapters.{serves_from_total}
use Rattle.std.proofs.lemmas.Iterator.Consumers.{fold_from_yields_List}
use Rattle.std.proofs.lemmas.List.Sums.{sum_by_from}
use Rattle.frames_sums.specs.Steps.{FirstAt}
use Rattle.frames_window_sums.proofs.Laws.{one_below, all_counted}
use Rattle.frames_window_sums.proofs.inner.count_to.Goals as goal

pub fold-requires-clause-callable : goal.fold-requires-clause-callable
fold-requires-clause-callable c =
    let s = c.args in
    let part = take (s.to - s.from) (drop s.from s.bins.now) in
    let f = all_counted s.bins.now s.from s.to s.x c.requires.2 c.requires.0 c.requires.1 in
    serves_from_total (YieldsList-from_slice part cc) (one_below s.x) (λ n bin q k. search (rules, tests)) (λ n bin h. let b = f.before in search (rules, tests, arith))

pub returns : goal.returns
returns c =
    let s = c.args in
    let below = one_below s.x in
    let part = take (s.to - s.from) (drop s.from s.bins.now) in
    let e = fold_from_yields_List _ (λ r bin. r + below bin) _ _ c.fold.ensures.ran (YieldsList-from_slice part cc) (λ r bin b q k. search (rules, tests))
    ∙ sum_by_from below s.from part in
    subst (FirstAt s.bins.now s.from s.to s.x) (sym e) (all_counted s.bins.now s.from s.to s.x c.requires.2 c.requires.0 c.requires.1)
