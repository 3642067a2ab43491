use Rattle.std.proofs.Common.{◌≡◌, ◌∙◌, cond, refl, sym, rules, tests}
use Rattle.std.specs.Float.Ieee.{lt}
use Rattle.std.proofs.lemmas.Iterator.{YieldsList-from_slice}
use Rattle.std.proofs.lemmas.Iterator.Consumers.{YieldsList-from_enumerate, fold_from_yields_List}
use Rattle.rt_fallback.specs.Fallback.{top_of}
use Rattle.rt_fallback.proofs.Laws.{top-fold}
use Rattle.rt_fallback.proofs.inner.top_of.Goals.{After-fold-top}
use Rattle.rt_fallback.proofs.inner.top_of.Goals as goal

found : (c : After-fold-top) → c.fold-top.result ≡ top_of c.args.y.now
found c =
    fold_from_yields_List _ (λ t p. cond (lt t.height p.1) (record { place = p.0; height = p.1 }) t) _ _ c.fold-top.ensures.ran (YieldsList-from_enumerate (YieldsList-from_slice c.args.y.now cc) (cc)) (λ s x b q k. search (rules, tests))
    ∙ top-fold c.args.y.now 0 _

pub returns-then-top : goal.returns-then-top
returns-then-top c = let e = found (goal.at.returns-then-top c).After-fold-top in rw (sym e, c.if-top.true) refl

pub returns-else-top : goal.returns-else-top
returns-else-top c = let e = found (goal.at.returns-else-top c).After-fold-top in rw (sym e, c.if-top.false) refl
