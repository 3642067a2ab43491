use Rattle.std.proofs.Common.{not, ◌∙◌}
use Rattle.std.specs.Float.Ieee.{lt}
use Rattle.std.proofs.iter.Serving.{serving}
use Rattle.rt_time.proofs.Laws.{falls-all}
use Rattle.rt_time.proofs.inner.never_falls.Goals as goal

pub returns : goal.returns
returns c = c.all_neighbours.ensures (λ last x. not (lt x last)) (λ x y r p. grind serving) ∙ falls-all c.args.t.now
