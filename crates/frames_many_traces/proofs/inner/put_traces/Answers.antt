use Rattle.std.proofs.Common.{◌/◌, length}
use Rattle.row_record.specs.Record.{size}
use Rattle.frames_many_traces.specs.Steps.{window_at}
use Rattle.frames_many_traces.proofs.Laws.{traces-all}
use Rattle.frames_many_traces.proofs.inner.put_traces.Goals as goal

pub returns-clause-out : goal.returns-clause-out
returns-clause-out c = let s = c.args in
    let p = s.peaks in
    traces-all s.ix.now p.scale p.pad p.list.now (λ k. window_at c.put_windows.new.windows k) (length p.list.now / size) s.out.now _ (rw (c.frames.ensures.count, c.count.ensures) at c.put_columns.ensures) c.requires.2 c.put_windows.ensures.here
