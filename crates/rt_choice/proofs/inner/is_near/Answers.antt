use mathlib.Core.Path.{sym, ap, ◌∙◌}
use lib.Ieee.{Float, lt}
use Rattle.numeric.specs.Arith.{◌⊖◌}
use Rattle.rt_choice.proofs.Laws.{higher-side}
use Rattle.rt_choice.proofs.inner.is_near.Goals as goal

pub returns : goal.returns
returns c =
    ap (λ (x : Float). lt x c.args.sep) c.max.ensures ∙ sym (higher-side (c.args.a ⊖ c.args.b) c.args.sep)
