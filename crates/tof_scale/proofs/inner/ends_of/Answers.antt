use Rattle.std.proofs.Common.{rules, ◌≡◌, ◌∙◌, refl, subst}
use Rattle.std.specs.List.{fold}
use Rattle.std.proofs.lemmas.Fn.{fold_over, slice_gives, fronts}
use Rattle.std.proofs.lemmas.List.Sums.{fold_push}
use Rattle.tof_scale.proofs.Laws.{seen, none_seen, seen_all}
use Rattle.tof_scale.proofs.inner.ends_of.Goals as goal

pub returns : goal.returns
returns c = let e = subst (λ l. c.fold.result ≡ fold seen none_seen l) c.iter.ensures.rest
    (fold_over fronts (λ y. y.now) _ (λ ys a. a ≡ fold seen none_seen ys) _ (λ ys a x b f' j k. let more = fold_push seen none_seen ys x.now in search rules)
    _ _ _ _ (slice_gives c.iter.result) refl c.fold.ensures.ran) in
    e ∙ seen_all c.args.tofs.now
