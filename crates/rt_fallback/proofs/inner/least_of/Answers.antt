use Rattle.std.proofs.Common.{◌∙◌, cond, rules, tests}
use Rattle.std.specs.Float.Ieee.{lt}
use Rattle.std.proofs.lemmas.Iterator.{YieldsList-from_slice}
use Rattle.std.proofs.lemmas.Iterator.Consumers.{fold_from_yields_List}
use Rattle.rt_fallback.proofs.Laws.{least-fold}
use Rattle.rt_fallback.proofs.inner.least_of.Goals as goal

pub returns : goal.returns
returns c =
    fold_from_yields_List _ (λ m v. cond (lt v m) v m) _ _ c.fold.ensures.ran (YieldsList-from_slice c.args.y.now cc) (λ m v b q k. search (rules, tests))
    ∙ rw c.float_of-infinity.ensures (least-fold c.args.y.now _)
