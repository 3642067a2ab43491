use Rattle.rt_apex.proofs.Laws.{local-is}
use Rattle.rt_apex.proofs.inner.Trace.local_peak.Goals as goal

pub returns : goal.returns
returns c = let t = c.args.self in
    local-is t.smoothed.now t.raw.now t.times.now c.args.a c.subframe-sub.result c.time_beside.result c.seconds_between-s.result c.requires c.subframe-sub.ensures c.time_beside.ensures c.seconds_between-s.ensures
