use mathlib.Core.Path.{◌∙◌}
use Prim.Native.Nat.{◌*◌}
use Rattle.rt_record.specs.RtRecord.{local_size}
use Rattle.rt_record.proofs.Laws.{part, own-local}
use Rattle.rt_record.proofs.inner.local_at.Goals as goal

pub returns : goal.returns
returns c = let l = c.args.list.now in
    c.first_local.ensures ∙ own-local _ l 0 (c.args.k * local_size) (part local_size l (c.args.k * local_size) c.requires)
