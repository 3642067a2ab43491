use Rattle.std.proofs.Common.{◌*◌, ◌++◌, ◌∙◌, ap, length, drop}
use Rattle.std.specs.Prelude.{Float}
use lib.Seq.{length-take-le, drop_at}
use Rattle.rt_record.specs.RtRecord.{local_size}
use Rattle.rt_search.specs.Retention.{rt_peaks}
use Rattle.rt_peaks.specs.Trace.{peaks_of, peak_words}
use Rattle.rt_peaks.proofs.list_accepted.Goals as goal

pub returns : goal.returns
unfolding peaks_of
returns c = let t = c.args.trace in
    let a = c.args.asked in
    let y = t.smoothed.now in
    let scratch = c.args.scratch.now in
    let r = c.find_rt_peaks in
    let l = length-take-le (length y) scratch c.requires.2 in
    let q = ap (λ (v : Float). rt_peaks v a.min_sep_sec a.min_width_sec y t.raw.now t.times.now) c.floor_of.ensures in
    record {
      count = r.ensures.count ∙ ap length q;
      front = r.ensures.front ∙ ap (λ ps. peak_words ps ++ drop (r.result * local_size) c.args.out.now) q;
      past = drop_at r.new.order (drop (length y) scratch) (length y) (r.auto.order ∙ l);
    }
