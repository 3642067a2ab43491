use Rattle.stitch_peaks.specs.PeakList.{peaks_of}
use Rattle.stitch_distinct.specs.Distinct.{by_identity}
use Rattle.stitch_distinct.proofs.Laws.{put_front, order-length}
use Rattle.stitch_distinct.proofs.inner.put_by_identity.Goals as goal

pub returns : goal.returns
returns c = let p = c.put_first in
    let n = c.args.records.count in
    let words = c.args.records.words.now in record { distinct = p.ensures.distinct; order = put_front p.result (by_identity (peaks_of words n)) c.args.order.now p.new.to n c.requires.1 (order-length words n) p.ensures.order }
