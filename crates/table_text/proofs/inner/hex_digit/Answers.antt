use Rattle.table_text.proofs.Facts.{hex_places}
use Rattle.table_text.proofs.inner.hex_digit.Goals as goal

pub returns : goal.returns
returns c = hex_places c.args.d c.requires
