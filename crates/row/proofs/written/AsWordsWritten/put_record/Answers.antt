use mathlib.Core.Path.{◌∙◌}
use Rattle.row.proofs.Laws.{put-words}
use Rattle.row.proofs.written.AsWordsWritten.put_record.Goals as goal

pub returns : goal.returns
returns c = c.put_peak.ensures ∙ put-words c.args.out.now c.args.k c.args.p
