use Rattle.rt_peaks.proofs.Laws.{searchable}
use Rattle.rt_peaks.proofs.inner.list_in.Goals as goal

pub list_rt_peaks-requires : goal.list_rt_peaks-requires
list_rt_peaks-requires g c =
    (rw c.lend.ensures (searchable g.row.N c.requires.trace.0 c.requires.trace.1 c.requires.sizes.few), c.requires.trace.0.words)
