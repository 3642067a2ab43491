use lib.Ieee.{of_bits, fits}
use Rattle.rounding.specs.Rounding.{round_f}
use Rattle.rounding.proofs.Laws.{round_by, round_keeps, round-small, high-stays}
use mathlib.Core.Path.{sym, subst}
use mathlib.Core.Bool.{true, false}
use lib.Dec.{T}
use lib.Ieee.{binary32}
use Rattle.rounding.proofs.positive_round.Goals.{Start}
use Rattle.rounding.proofs.positive_round.Goals as goal

held : (c : Start) → T (fits binary32 c.args.x)
held c = subst T (sym c.well_formed.0.1) tt

pub returns-then-x-n : goal.returns-then-x-n
unfolding of_bits
returns-then-x-n c = λ g. round-small c.args.x c.positive_floor-n.result true g c.if-x.true (c.positive_floor-n.ensures g) c.if-x-n.true

pub returns-else-x-n : goal.returns-else-x-n
unfolding of_bits
returns-else-x-n c = λ g. round-small c.args.x c.positive_floor-n.result false g c.if-x.true (c.positive_floor-n.ensures g) c.if-x-n.false

pub returns-else-x : goal.returns-else-x
unfolding round_f of_bits
returns-else-x c = λ g. high-stays round_by round_keeps c.args.x (held (goal.at.returns-else-x c).Start) g c.if-x.false
