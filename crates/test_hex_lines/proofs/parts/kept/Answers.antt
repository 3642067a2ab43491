use Rattle.std.proofs.Common.{◌≡◌, ◌∙◌, nat_eq, refl, ap, rules}
use Rattle.test_hex_lines.specs.Parts.{all_are}
use Rattle.numeric.proofs.Laws.{fold-all}
use Rattle.test_hex_lines.proofs.parts.kept.Goals as goal

pub returns : goal.returns
unfolding all_are
returns c = let before = c.args.before in
    fold-all (λ x. nat_eq x before) (all_are before) (λ x xs. refl) refl _ _ (λ a x b f' k. search rules) c.iter.result _ c.fold.ensures.ran
    ∙ ap (all_are before) (c.iter.ensures.rest ∙ c.from_place.ensures)
