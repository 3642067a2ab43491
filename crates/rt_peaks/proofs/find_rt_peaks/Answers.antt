use Rattle.std.proofs.Common.{length, sym}
use Rattle.rt_peaks.proofs.Laws.{checked}
use Rattle.rt_peaks.proofs.find_rt_peaks.Goals as goal

pub list_accepted-requires : goal.list_accepted-requires
list_accepted-requires c = let t = c.args.trace in
    let a = c.args.asked in
    checked t.smoothed.now t.raw.now t.times.now a.min_prom a.min_sep_sec a.min_width_sec (length c.args.out.now) (length c.args.scratch.now) (sym c.in_ok-check.ensures)
