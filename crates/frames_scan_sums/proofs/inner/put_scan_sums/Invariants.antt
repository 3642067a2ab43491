use Rattle.std.proofs.Common.{◌-◌}
use Rattle.frames_scan_sums.proofs.Laws.{Summing}
use Rattle.frames_scan_sums.proofs.inner.put_scan_sums.Given as goal

abbrev pub invariant-loop-f : goal.invariant-loop-f
invariant-loop-f l = Summing l.ix l.w l.fn.frames.from l.fn.frames.count l.initial.out (l.f - l.fn.frames.from) l.out
