use lib.Ieee.{of_bits, fits}
use Rattle.rounding.specs.Rounding.{floor_f}
use Rattle.rounding.proofs.Laws.{floor_by, floor-keeps, floor-small, high-stays}
use mathlib.Core.Path.{sym, subst}
use mathlib.Core.Bool.{true, false}
use lib.Dec.{T}
use lib.Ieee.{binary32}
use Rattle.rounding.proofs.positive_floor.Goals.{Start}
use Rattle.rounding.proofs.positive_floor.Goals as goal

held : (c : Start) → T (fits binary32 c.args.x)
held c = subst T (sym c.well_formed.0.1) tt

pub returns-then-x-n : goal.returns-then-x-n
unfolding of_bits
returns-then-x-n c = λ g. floor-small c.args.x true g c.if-x.true c.if-x-n.true

pub returns-else-x-n : goal.returns-else-x-n
unfolding of_bits
returns-else-x-n c = λ g. floor-small c.args.x false g c.if-x.true c.if-x-n.false

pub returns-else-x : goal.returns-else-x
unfolding floor_f of_bits
returns-else-x c = λ g. high-stays floor_by floor-keeps c.args.x (held (goal.at.returns-else-x c).Start) g c.if-x.false
