use Rattle.std.proofs.Common.{◌∙◌}
use Rattle.expand_padded_window.proofs.Laws.{found-by}
use Rattle.expand_padded_window.proofs.inner.frame_with.Goals as goal

pub returns : goal.returns
returns c = record { is = c.ok.ensures.value ∙ found-by c.args.ids.now c.args.id c.binary_search.result c.requires c.binary_search.ensures.position }
