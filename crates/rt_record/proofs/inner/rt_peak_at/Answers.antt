use mathlib.Core.Path.{◌∙◌}
use Prim.Native.Nat.{◌*◌}
use Rattle.rt_record.specs.RtRecord.{rt_size}
use Rattle.rt_record.proofs.Laws.{part, own-rt}
use Rattle.rt_record.proofs.inner.rt_peak_at.Goals as goal

pub returns : goal.returns
returns c = let l = c.args.list.now in
    c.first_rt_peak.ensures ∙ own-rt _ l 0 (c.args.k * rt_size) (part rt_size l (c.args.k * rt_size) c.requires)
