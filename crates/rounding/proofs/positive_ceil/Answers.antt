use lib.Ieee.{of_bits, fits}
use Rattle.rounding.specs.Rounding.{ceil_f}
use Rattle.rounding.proofs.Laws.{ceil_by, ceil-keeps, ceil-small, high-stays}
use mathlib.Core.Path.{sym, subst}
use mathlib.Core.Bool.{true, false}
use lib.Dec.{T}
use lib.Ieee.{binary32}
use Rattle.rounding.proofs.positive_ceil.Goals.{Start}
use Rattle.rounding.proofs.positive_ceil.Goals as goal

held : (c : Start) → T (fits binary32 c.args.x)
held c = subst T (sym c.well_formed.0.1) tt

pub returns-then-n-x : goal.returns-then-n-x
unfolding of_bits
returns-then-n-x c = λ g. ceil-small c.args.x c.positive_floor-n.result true g c.if-x.true (c.positive_floor-n.ensures g) c.if-n-x.true

pub returns-else-n-x : goal.returns-else-n-x
unfolding of_bits
returns-else-n-x c = λ g. ceil-small c.args.x c.positive_floor-n.result false g c.if-x.true (c.positive_floor-n.ensures g) c.if-n-x.false

pub returns-else-x : goal.returns-else-x
unfolding ceil_f of_bits
returns-else-x c = λ g. high-stays ceil_by ceil-keeps c.args.x (held (goal.at.returns-else-x c).Start) g c.if-x.false
