use Rattle.std.proofs.Common.{◌≡◌, ◌++◌, drop}
use Rattle.frames_sums.specs.Sums.{frame_sums}
use Rattle.frames_sums.proofs.inner.put_frame_sums.Given as goal

abbrev pub invariant-loop-k : goal.invariant-loop-k
invariant-loop-k l = l.sum-items ≡ frame_sums l.ix l.w l.frames.from l.k ++ drop l.k l.initial.sum-items
