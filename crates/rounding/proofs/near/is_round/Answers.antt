use Rattle.rounding.proofs.Guess.{round-near}
use native.Mathlib.Omega.{arith}
use Rattle.rounding.proofs.near.is_round.Goals as goal

pub returns-then-of_index-x : goal.returns-then-of_index-x
returns-then-of_index-x c = λ t.
    record { small = omega arith; whole = round-near c.args.g (omega arith) c.args.x (omega arith) (rw c.of_index.ensures at c.if-of_index-x.true) (rw c.of_index-then-of_index-x.ensures at t) }
