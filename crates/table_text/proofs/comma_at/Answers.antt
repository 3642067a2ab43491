use Rattle.table_text.proofs.Laws.{comma_or_length}
use Rattle.table_text.proofs.comma_at.Goals as goal

pub returns : goal.returns
returns c = rw (c.unwrap_or.ensures, c.place_of.ensures) (comma_or_length c.args.line.now)
