use Rattle.frames_sums.proofs.Laws.{Halved}
use Rattle.frames_sums.proofs.inner.first_at.Given as goal

abbrev pub invariant-loop-n : goal.invariant-loop-n
invariant-loop-n l = Halved l.bins l.from l.to l.x l.base l.n

abbrev pub decreases-loop-n : goal.decreases-loop-n
decreases-loop-n l = l.n
