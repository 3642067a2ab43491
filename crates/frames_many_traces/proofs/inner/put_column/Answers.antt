use Rattle.std.proofs.Common.{ap, ◌∙◌, arith}
use Rattle.numeric.specs.Arith.{𝟎}
use Rattle.frames_sums.specs.declared.inner.Window.{Window}
use Rattle.frames_sums.specs.Sums.{add_frame}
use Rattle.frames_many_traces.specs.Steps.{window_at}
use Rattle.frames_many_traces.proofs.Laws.{putting-more, putting-end}
use Rattle.frames_many_traces.proofs.inner.put_column.Goals as goal

pub loop-k-preserved : goal.loop-k-preserved
loop-k-preserved c = let x = c.args in
    putting-more (λ i. add_frame x.ix.now (window_at x.windows.now i) x.f 𝟎) x.n x.m x.f x.out.now c.loop-k.k c.loop-k.out c.add_frame.result c.loop-k.invariant (omega arith) c.requires.1 c.requires.2
    (c.add_frame.ensures ∙ ap (λ (w : Window). add_frame x.ix.now w x.f 𝟎) c.window_at-w.ensures)

pub returns : goal.returns
returns c = let x = c.args in
    putting-end (λ i. add_frame x.ix.now (window_at x.windows.now i) x.f 𝟎) x.n x.m x.f x.out.now c.loop-k.k c.loop-k.out (omega arith) c.loop-k.invariant
