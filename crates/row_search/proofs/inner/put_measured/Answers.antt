use Prim.Native.Nat.{◌*◌}
use Rattle.row_record.proofs.Laws.{put-part}
use Rattle.row_search.specs.Found.{measured_words, with_measured}
use Rattle.row_search.proofs.inner.put_measured.Goals as goal

pub returns : goal.returns
unfolding with_measured
returns c = let w = c.put_words in record { words = put-part c.args.out.now (measured_words c.args.m) w.new.out (c.args.j * 8) 8 w.ensures.words; fit = w.ensures.fit }
