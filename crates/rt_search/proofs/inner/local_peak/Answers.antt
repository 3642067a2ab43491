use Rattle.std.proofs.Common.{◌∙◌, ap}
use Rattle.rt_apex.specs.InTime.{local_peak_of}
use Rattle.rt_search.proofs.Listed.{read-index, read_whole}
use Rattle.rt_search.proofs.inner.local_peak.Goals as goal

pub local_peak-requires : goal.local_peak-requires
local_peak-requires c = let s = c.args in
    let t = s.trace in
    read_whole s.found.now s.p c.measured_at.result c.measured_at.ensures t.smoothed.now t.raw.now t.times.now c.requires.0 c.requires.1 c.requires.2 c.requires.3

pub returns : goal.returns
returns c = let s = c.args in
    let t = s.trace in
    c.local_peak.ensures ∙ ap (local_peak_of t.smoothed.now t.raw.now t.times.now) (read-index s.found.now s.p c.measured_at.result c.measured_at.ensures)
