use Rattle.std.proofs.Common.{◌≡◌, not, refl, subst, rules}
use lib.Ieee.{lt}
use Rattle.numeric.proofs.Laws.{fold-all}
use Rattle.row_apex.specs.Apex.{none_below}
use Rattle.row_apex.proofs.inner.none_below.Goals as goal

pub returns : goal.returns
unfolding none_below
returns c = let low = c.args.low in
    subst (λ l. c.fold.result ≡ none_below low l) c.iter.ensures.rest
    (fold-all (λ v. not (lt v low)) (none_below low) (λ v vs. refl) refl _ _ (λ a v b f' k. search rules) c.iter.result _ c.fold.ensures.ran)
