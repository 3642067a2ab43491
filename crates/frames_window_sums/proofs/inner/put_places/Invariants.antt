use Rattle.std.proofs.Common.{ℕ, ◌<◌, ◌+◌, get_or}
use Rattle.frames_window_sums.specs.Steps.{FirstIn}
use Rattle.frames_window_sums.proofs.inner.put_places.Given as goal

abbrev pub invariant-loop-k : goal.invariant-loop-k
invariant-loop-k l = (k : ℕ) → k < l.k → FirstIn l.ix (l.fn.frames.from + k) l.x (get_or l.place-items k 0)
