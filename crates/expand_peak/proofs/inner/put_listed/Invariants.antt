use Rattle.std.proofs.Common.{◌≡◌, length, take, map}
use Rattle.rt_listing.specs.Places.{index_at}
use Rattle.expand_trace.specs.FallbackPeaks.{Put}
use Rattle.expand_peak.specs.Steps.{placed_apexes}
use Rattle.expand_peak.proofs.inner.put_listed.Given as goal

abbrev pub invariant-loop-k : goal.invariant-loop-k
invariant-loop-k l =
    let t = l.trace in
    (length l.out ≡ length l.initial.out)
    × Put (placed_apexes l.at.lo l.at.ids.now l.at.peak t.smoothed.now t.raw.now t.times.now (map (index_at l.found) (take l.k l.order)) l.at.first) l.initial.out l.k l.out
