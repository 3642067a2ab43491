use Rattle.std.proofs.Common.{◌≡◌, ◌∙◌, ap}
use lib.Seq.{length-take-le}
use Rattle.rt_params.specs.Modes.{effective_f}
use Rattle.expand_peak.specs.Expanded.{floor_of}
use Rattle.expand_peak.proofs.Laws.{put-searched}
use Rattle.expand_peak.proofs.inner.search_smoothed.Goals as goal

pub returns-clause-put : goal.returns-clause-put
returns-clause-put c = let g = c.args in
    let t = g.trace in
    let h = c.find_rt_apexes-n.ensures.found in
    let floor : c.effective.result ≡ floor_of g.e t.smoothed.now = c.effective.ensures ∙ ap (effective_f g.e.min_prom) c.robust_noise_mad-noise.ensures in
    put-searched g.at.lo g.at.ids.now g.at.peak g.at.first g.e t.smoothed.now t.raw.now t.times.now _ floor h.apexes (length-take-le _ _ h.room) c.put_listed.ensures
