use Rattle.std.proofs.Common.{false, ◌||◌, ◌∙◌, rules, tests}
use Rattle.std.proofs.lemmas.Iterator.{YieldsList-from_slice}
use Rattle.std.proofs.lemmas.Iterator.Consumers.{fold_from_yields_List}
use Rattle.frames_sums.specs.Sums.{in_scans}
use Rattle.frames_sums.proofs.Laws.{any-fold}
use Rattle.frames_sums.proofs.inner.any_in.Goals as goal

pub returns : goal.returns
returns c =
    fold_from_yields_List _ (λ any s. any || in_scans c.args.w s) _ _ c.fold.ensures.ran (YieldsList-from_slice c.args.scans.now cc) (λ any s b q k. search (rules, tests))
    ∙ any-fold (in_scans c.args.w) c.args.scans.now false
