use mathlib.Core.Path.{◌≡◌, refl, sym, ◌∙◌}
use Rattle.std.proofs.Common.{rules, tests}
use Rattle.std.specs.Prelude.{Option, Some, None, MatchOption}
use lib.Ieee.{Float}
use Rattle.stitch_merging.specs.declared.inner.SigmaSums.{SigmaSums}
use Rattle.numeric.specs.Arith.{◌⊕◌, ◌⊗◌}
use Rattle.stitch_merging.proofs.Laws.{sigma-more, sigma-same}
use Rattle.stitch_merging.proofs.inner.SigmaSums.join.Goals as goal

by-case : {P : Float → Type 0} (o : Option Float) {r s t : SigmaSums} → MatchOption o (r ≡ s) P → (o ≡ None → s ≡ t) → ((x : Float) → o ≡ Some x → P x → r ≡ t) → r ≡ t
by-case None h none some = h ∙ none refl
by-case (Some x) h none some = some x refl h

pub returns : goal.returns
returns c ps h =
    by-case c.sigma.result c.map_or.ensures (λ e. h ∙ sigma-same ps c.args.p (sym c.sigma.ensures ∙ e)) (λ x e q.
    let w = c.weight_of-weight.result in
    let made : c.map_or.result ≡ record { weight = c.args.self.weight ⊕ w; sigma = c.args.self.sigma ⊕ x ⊗ w } = search (rules, tests) in
    made ∙ rw (c.weight_of-weight.ensures, h) (sigma-more ps c.args.p x (sym c.sigma.ensures ∙ e)))
