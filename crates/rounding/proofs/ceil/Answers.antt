use lib.Ieee.{of_bits, fits, neg}
use Rattle.rounding.specs.Rounding.{ceil_f}
use Rattle.rounding.proofs.Laws.{ceil_by, ceil-keeps, ceil-turned, mirrored, zero-stays}
use mathlib.Core.Path.{sym, ◌∙◌, ap, subst}
use lib.Dec.{T}
use lib.Ieee.{binary32}
use Rattle.rounding.proofs.ceil.Goals.{Start}
use Rattle.rounding.proofs.ceil.Goals as goal

held : (c : Start) → T (fits binary32 c.args.x)
held c = subst T (sym c.well_formed.0.1) tt

pub returns-then-x-2 : goal.returns-then-x-2
unfolding of_bits
returns-then-x-2 c = let x = c.args.x in ap neg (c.positive_floor.ensures (mirrored x c.if-x-2.true)) ∙ ceil-turned x

pub returns : goal.returns
unfolding ceil_f of_bits
returns c = zero-stays ceil_by ceil-keeps c.args.x (held (goal.at.returns c).Start) c.if-x.false c.if-x-2.false
