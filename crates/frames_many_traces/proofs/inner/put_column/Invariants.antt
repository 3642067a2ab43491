use Rattle.numeric.specs.Arith.{𝟎}
use Rattle.frames_sums.specs.Sums.{add_frame}
use Rattle.frames_many_traces.specs.Steps.{window_at}
use Rattle.frames_many_traces.proofs.Laws.{Putting}
use Rattle.frames_many_traces.proofs.inner.put_column.Given as goal

abbrev pub invariant-loop-k : goal.invariant-loop-k
invariant-loop-k l = Putting (λ i. add_frame l.ix (window_at l.windows i) l.f 𝟎) l.k l.n l.m l.f l.initial.out l.out
