use Rattle.std.proofs.Common.{◌∙◌, ap, rules, tests}
use Rattle.std.proofs.lemmas.Iterator.{YieldsList-from_slice}
use Rattle.std.proofs.lemmas.Iterator.Consumers.{YieldsList-from_enumerate, fold_from_yields_List}
use Rattle.numeric.specs.Arith.{◌⊕◌, ◌⊗◌, 𝟎, index_f}
use Rattle.rt_fallback.specs.Fallback.{sums_from}
use Rattle.rt_fallback.proofs.Laws.{sums-fold}
use Rattle.rt_fallback.proofs.inner.sums_of.Goals as goal

pub returns : goal.returns
returns c =
    fold_from_yields_List _ (λ s p. record { mass = s.mass ⊕ p.1; moment = s.moment ⊕ index_f p.0 ⊗ p.1 }) _ _ c.fold.ensures.ran (YieldsList-from_enumerate (YieldsList-from_slice c.args.y.now cc) (cc)) (λ s x b q k. search (rules, tests))
    ∙ sums-fold c.args.y.now 0 _
    ∙ ap (λ m. sums_from c.args.y.now 0 m c.default.result.moment) c.default.ensures.0
    ∙ ap (sums_from c.args.y.now 0 𝟎) c.default.ensures.1
