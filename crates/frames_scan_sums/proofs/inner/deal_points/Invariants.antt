use Rattle.std.proofs.Common.{◌+◌, length}
use Rattle.frames_scan_sums.proofs.Laws.{Dealing}
use Rattle.frames_scan_sums.proofs.inner.deal_points.Given as goal

abbrev pub invariant-loop-scan : goal.invariant-loop-scan
invariant-loop-scan l = Dealing l.ix l.w l.fn.p.from l.fn.p.to l.initial.out (l.fn.p.from + length l.yielded) l.out
