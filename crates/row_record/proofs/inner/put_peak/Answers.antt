use mathlib.Core.Path.{◌∙◌}
use Prim.Native.Nat.{◌*◌}
use Rattle.row_record.specs.Record.{size, words_of, with_peak}
use Rattle.row_record.proofs.Laws.{put-record}
use Rattle.row_record.proofs.inner.put_peak.Goals as goal

pub returns : goal.returns
unfolding with_peak
returns c = put-record c.args.out.now (words_of c.args.p) c.copy_from_slice.new.self (c.args.k * size) size (c.copy_from_slice.ensures.after ∙ c.words_of.ensures)
