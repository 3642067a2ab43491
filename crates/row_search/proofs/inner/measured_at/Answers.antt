use Rattle.row_search.specs.Found.{measured_from}
use native.Mathlib.Nat.{add-zero}
use Rattle.row_search.proofs.inner.measured_at.Goals as goal

pub returns : goal.returns
unfolding measured_from
returns c = rw (c.float_of.ensures, c.float_of-2.ensures, c.float_of-3.ensures, c.float_of-4.ensures, add-zero)
