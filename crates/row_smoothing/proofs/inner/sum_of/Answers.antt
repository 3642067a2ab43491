use Rattle.std.proofs.Common.{◌≡◌, refl, subst, rules}
use Rattle.std.proofs.lemmas.Fn.{fold_over, slice_gives, fronts}
use Rattle.numeric.specs.Arith.{𝟎}
use Rattle.row_smoothing.specs.Smoothing.{sum_from}
use Rattle.row_smoothing.proofs.Laws.{sum-snoc}
use Rattle.row_smoothing.proofs.inner.sum_of.Goals as goal

pub returns : goal.returns
unfolding sum_from
returns c = subst (λ l. c.fold.result ≡ sum_from 𝟎 l) c.iter.ensures.rest
    (fold_over fronts (λ y. y.now) _ (λ ys b. b ≡ sum_from 𝟎 ys) _ (λ ys a w b f' j k. let e = sum-snoc 𝟎 ys w.now in search rules)
    _ _ _ _ (slice_gives c.iter.result) refl c.fold.ensures.ran)
