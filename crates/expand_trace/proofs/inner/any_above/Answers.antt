use Rattle.std.proofs.Common.{◌||◌, ◌∙◌, false, rules, tests}
use Rattle.std.specs.Float.Ieee.{lt}
use Rattle.std.proofs.lemmas.Iterator.{YieldsList-from_slice}
use Rattle.std.proofs.lemmas.Iterator.Consumers.{fold_from_yields_List}
use Rattle.numeric.specs.Arith.{𝟎}
use Rattle.expand_trace.proofs.Laws.{any-fold}
use Rattle.expand_trace.proofs.inner.any_above.Goals as goal

pub returns : goal.returns
returns c =
    fold_from_yields_List _ (λ any v. any || lt 𝟎 v) _ _ c.fold.ensures.ran (YieldsList-from_slice c.args.x.now cc) (λ any v b q k. search (rules, tests))
    ∙ any-fold c.args.x.now false
