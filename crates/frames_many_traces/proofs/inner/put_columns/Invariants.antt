use Rattle.numeric.specs.Arith.{𝟎}
use Rattle.frames_sums.specs.Sums.{add_frame}
use Rattle.frames_many_traces.specs.Steps.{window_at, Columns}
use Rattle.frames_many_traces.proofs.inner.put_columns.Given as goal

abbrev pub invariant-loop-f : goal.invariant-loop-f
invariant-loop-f l = Columns (λ k g. add_frame l.ix (window_at l.windows k) g 𝟎) l.n l.m l.f l.initial.out l.out
