use Rattle.std.proofs.Common.{arith}
use Rattle.numeric.specs.Arith.{𝟎}
use Rattle.frames_sums.specs.Sums.{add_frame}
use Rattle.frames_many_traces.specs.Steps.{window_at}
use Rattle.frames_many_traces.proofs.Laws.{columns-more}
use Rattle.frames_many_traces.proofs.inner.put_columns.Goals as goal

pub loop-f-preserved : goal.loop-f-preserved
loop-f-preserved c = let x = c.args in
    columns-more (λ k g. add_frame x.ix.now (window_at x.windows.now k) g 𝟎) x.n x.m x.out.now c.loop-f.f c.loop-f.out _ c.loop-f.invariant (omega arith) c.put_column.ensures
