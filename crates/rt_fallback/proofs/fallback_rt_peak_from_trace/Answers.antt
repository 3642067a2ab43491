use Rattle.std.proofs.Common.{length, sym, arith}
use Rattle.rt_fallback.proofs.FallbackNumberLaws.{ready}
use Rattle.rt_fallback.proofs.fallback_rt_peak_from_trace.Goals as goal

pub peak_at-p-requires : goal.peak_at-p-requires
peak_at-p-requires c = let s = c.args in
    let k = ready s.trace.now s.ids.now s.times.now s.peak.now s.frac (length s.out.now) (sym c.in_ok-check.ensures) in
    omega (arith, k.record-long)

pub fallback_rt_peak_from_trace-f-requires : goal.fallback_rt_peak_from_trace-f-requires
fallback_rt_peak_from_trace-f-requires c = let s = c.args in
    let k = ready s.trace.now s.ids.now s.times.now s.peak.now s.frac (length s.out.now) (sym c.in_ok-check.ensures) in
    (k.short, (λ h. omega (arith, h, k.times_long)))

pub put_answer-requires : goal.put_answer-requires
put_answer-requires c = let s = c.args in
    (ready s.trace.now s.ids.now s.times.now s.peak.now s.frac (length s.out.now) (sym c.in_ok-check.ensures)).room-long
