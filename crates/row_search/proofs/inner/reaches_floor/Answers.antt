use Rattle.std.proofs.Common.{◌≡◌, ◌||◌, not, refl, sym, subst, ◌∙◌, rules}
use lib.Ieee.{lt, le}
use Rattle.numeric.specs.Arith.{𝟎}
use Rattle.numeric.proofs.Laws.{fold-any}
use Rattle.numeric.proofs.Patterns.{zero_number}
use Rattle.row_search.proofs.Laws.{some, highest-reaches}
use Rattle.row_search.proofs.inner.reaches_floor.Goals as goal

pub returns : goal.returns
unfolding some
returns c = let floor = c.args.floor in
    subst (λ l. c.fold.result ≡ (not (lt 𝟎 floor) || some floor l)) c.iter.ensures.rest
    (fold-any (le floor) (some floor) (λ v vs. refl) refl _ _ (λ a v b f' k. search rules) c.iter.result _ _ c.fold.ensures.ran)
    ∙ sym (highest-reaches floor 𝟎 c.args.z.now zero_number)
