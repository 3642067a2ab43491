use Rattle.std.proofs.Common.{◌∙◌, ltb}
use Rattle.std.proofs.iter.Serving.{serving}
use Rattle.row_params.proofs.Laws.{rising-fold}
use Rattle.row_params.proofs.inner.is_rising.Goals as goal

pub returns : goal.returns
returns c = c.all_neighbours.ensures ltb (λ x y r p. grind serving) ∙ rising-fold c.args.axis.now
