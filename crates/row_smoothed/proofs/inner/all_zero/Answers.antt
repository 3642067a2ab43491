use Rattle.std.proofs.Common.{rules, ◌≡◌, refl, subst}
use Rattle.std.proofs.lemmas.Fn.{fold_over, slice_gives, fronts}
use Rattle.row_smoothed.specs.SmoothRow.{all_zero}
use Rattle.row_smoothed.proofs.Zeros.{zeros-push}
use Rattle.row_smoothed.proofs.inner.all_zero.Goals as goal

pub returns : goal.returns
unfolding all_zero
returns c = subst (λ l. c.fold.result ≡ all_zero l) c.iter.ensures.rest
    (fold_over fronts (λ y. y.now) _ (λ ys a. a ≡ all_zero ys) _ (λ ys a x b f' j k. let more = zeros-push ys x.now in search rules)
    _ _ _ _ (slice_gives c.iter.result) refl c.fold.ensures.ran)
