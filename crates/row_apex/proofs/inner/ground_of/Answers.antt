use lib.Ieee.{is_nan, of_bits, neg, div}
use Rattle.row_apex.proofs.Laws.{none-below-all}
use mathlib.Core.Path.{refl, sym, ◌∙◌}
use Rattle.row_apex.proofs.inner.ground_of.Goals as goal

pub returns-then-none_below : goal.returns-then-none_below
unfolding of_bits is_nan
returns-then-none_below c = record { number = refl; none = sym c.none_below.ensures ∙ c.if-none_below.true }

pub returns : goal.returns
unfolding of_bits is_nan neg div
returns c = record { number = refl; none = none-below-all c.args.y.now }
