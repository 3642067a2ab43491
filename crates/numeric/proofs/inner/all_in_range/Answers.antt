use Rattle.std.proofs.Common.{◌≡◌, refl, subst, rules}
use Rattle.numeric.specs.Numeric.{in_range, all_in_range}
use Rattle.numeric.proofs.Laws.{fold-all}
use Rattle.numeric.proofs.inner.all_in_range.Goals as goal

pub returns : goal.returns
unfolding all_in_range
returns c = let limit = c.args.limit in
    subst (λ l. c.fold.result ≡ all_in_range limit l) c.iter.ensures.rest
    (fold-all (in_range limit) (all_in_range limit) (λ x xs. refl) refl _ _ (λ a x b f' k. search rules) c.iter.result _ c.fold.ensures.ran)
