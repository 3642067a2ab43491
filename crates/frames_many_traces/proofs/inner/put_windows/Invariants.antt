use Rattle.row_record.specs.Record.{peak_at}
use Rattle.frames_windows.specs.Windows.{peak_window}
use Rattle.frames_many_traces.specs.Steps.{Noted}
use Rattle.frames_many_traces.proofs.inner.put_windows.Given as goal

abbrev pub invariant-loop-k : goal.invariant-loop-k
invariant-loop-k l = Noted (λ i. peak_window l.peaks.scale l.peaks.pad (peak_at l.peaks.list.now i)) l.k l.initial.windows l.windows
