use Rattle.numeric.specs.Numeric.{cast_f}
use Rattle.rounding.proofs.Guess.{cast-index}
use mathlib.Core.Path.{sym, ◌∙◌, ap}
use native.Mathlib.Omega.{arith}
use lib.Ieee.{Float}
use Rattle.rounding.proofs.near.round_near.Goals as goal

pub returns-then-is_round : goal.returns-then-is_round
returns-then-is_round c = let k = c.is_round.ensures c.if-is_round.true in let l = k.small in sym (ap (λ (z : Float). cast_f z) k.whole ∙ cast-index c.args.g (omega arith))
