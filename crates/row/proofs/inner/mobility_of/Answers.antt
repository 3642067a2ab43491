use Rattle.std.proofs.Common.{◌∙◌, arith}
use mathlib.Core.Logic.{inl, inr}
use Rattle.numeric.specs.Arith.{𝟎}
use Rattle.row.proofs.Laws.{mobility-here}
use Rattle.row.proofs.inner.mobility_of.Goals.{then-i-count, else-i-count}
use Rattle.row.proofs.inner.mobility_of.Goals as goal

pub returns : goal.returns
returns g c = c.then_some.ensures ∙ mobility-here (g.M.Column.items c.args.mobility) c.args.i _ _ c.count-count.ensures (elim c.if-i-count.branch [
  | then-i-count w ↦ inl (omega arith, w.here-is ∙ w.item-here.ensures 𝟎)
  | else-i-count w ↦ inr (omega arith, w.here-is)
])
