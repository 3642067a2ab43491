use Rattle.std.proofs.Common.{◌≡◌, length}
use Rattle.rt_peaks.proofs.Laws.{Put}
use Rattle.rt_peaks.proofs.inner.put_rt_peaks.Given as goal

abbrev pub invariant-loop-k : goal.invariant-loop-k
invariant-loop-k l = (length l.out ≡ length l.initial.out) × Put l.trace.smoothed.now l.trace.raw.now l.trace.times.now l.found l.order l.initial.out l.k l.out
