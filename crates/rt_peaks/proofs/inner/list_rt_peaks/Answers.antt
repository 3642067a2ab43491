use Rattle.std.proofs.Common.{◌∙◌, sym, subst, arith}
use lib.Seq.{length-take-le, get_or-take}
use Rattle.rt_search.specs.Steps.{Stands}
use Rattle.rt_peaks.proofs.Laws.{peaks-are, peaks-count}
use Rattle.rt_peaks.proofs.inner.list_rt_peaks.Goals as goal

pub put_rt_peaks-requires : goal.put_rt_peaks-requires
put_rt_peaks-requires c = let t = c.args.trace in
    let r = c.find_rt_apexes-n in
    let h = r.ensures.found in
    let order = r.new.order in
    let n = r.result in
    let ready = c.requires.0 in
    let l = length-take-le n order h.room in
    record {
      stand = (λ k g. subst (Stands t.smoothed.now t.raw.now r.new.scratch.found.now) (sym (get_or-take n order k 0 (omega (arith, g, l)))) (h.stand k (omega (arith, g, l))));
      places = omega arith;
      words = rw l (omega (arith, h.few, c.requires.1));
      raw = ready.raw;
      times = ready.times;
      short = ready.short;
    }

pub returns-clause-listed : goal.returns-clause-listed
returns-clause-listed c = let a = c.args.asked in
    let t = c.args.trace in
    let r = c.find_rt_apexes-n in
    let h = r.ensures.found in
    let order = r.new.order in
    let n = r.result in
    let l = length-take-le n order h.room in
    record {
      count = peaks-count a.floor a.sep a.min_width t.smoothed.now t.raw.now t.times.now _ order n h;
      front = c.put_rt_peaks.ensures ∙ rw (l, peaks-are a.floor a.sep a.min_width t.smoothed.now t.raw.now t.times.now _ order n h);
    }
