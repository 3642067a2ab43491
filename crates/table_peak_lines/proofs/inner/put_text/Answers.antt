use Rattle.table_peak_lines.proofs.inner.put_text.Goals as goal

pub put_row-requires : goal.put_row-requires
put_row-requires c = (c.requires.0 c.in-Row.s c.in-Row.is, c.requires.1, c.requires.2)
