use mathlib.Core.Path.{refl}
use Rattle.grid_byte_rows.proofs.Laws.{record-words, record-put}
use Rattle.grid_byte_rows.proofs.records.AsBytesWritten.put_record.Goals as goal

pub returns : goal.returns
returns c = record-put c.args.out.now c.put_peak.new.out c.put_words.new.out c.args.k c.args.p (record-words _ c.put_peak.new.out c.args.p refl c.put_peak.ensures) c.put_words.ensures
