use Rattle.std.proofs.Common.{◌≡◌, ◌++◌, drop}
use Rattle.frames_sums.specs.Sums.{frame_sums}
use Rattle.frames_window_sums.proofs.inner.put_sums.Given as goal

abbrev pub invariant-loop-k : goal.invariant-loop-k
invariant-loop-k l = l.out ≡ frame_sums l.ix l.w l.fn.frames.from l.k ++ drop l.k l.initial.out
