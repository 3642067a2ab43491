use Rattle.std.proofs.Common.{◌≡◌, leb, refl, subst, rules}
use Rattle.row_params.specs.Params.{all_up_to}
use Rattle.numeric.proofs.Laws.{fold-all}
use Rattle.row_params.proofs.inner.all_up_to.Goals as goal

pub returns : goal.returns
unfolding all_up_to
returns c = let limit = c.args.limit in
    subst (λ l. c.fold.result ≡ all_up_to limit l) c.iter.ensures.rest
    (fold-all (λ s. leb s limit) (all_up_to limit) (λ s ss. refl) refl _ _ (λ a s b f' k. search rules) c.iter.result _ c.fold.ensures.ran)
