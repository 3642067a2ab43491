use Rattle.rounding.proofs.Guess.{sample-near}
use mathlib.Core.Path.{sym}
use native.Mathlib.Omega.{arith}
use Rattle.rounding.proofs.near.floor_sample.Goals as goal

pub returns-then-of_index-last : goal.returns-then-of_index-last
returns-then-of_index-last c = let k = (c.is_floor.ensures c.if-is_floor.true).floor in
    let l = k.small in
    sym (sample-near _ c.args.last c.args.g (omega arith) k.whole (rw c.of_index.ensures at c.if-of_index-last.true))
