use Rattle.std.proofs.Common.{List, ◌++◌, sym, ap, take, arith}
use Rattle.std.specs.Prelude.{Float}
use Rattle.frames_sums.proofs.Laws.{sums_none, sums-put}
use Rattle.frames_sums.proofs.inner.put_frame_sums.Goals as goal

pub loop-k-init : goal.loop-k-init
loop-k-init c = sym (ap (λ (x : List Float). x ++ take c.args.frames.count c.args.out.now) (sums_none c.args.ix.now c.args.w c.args.frames.from))

pub loop-k-preserved : goal.loop-k-preserved
loop-k-preserved c =
    sums-put c.args.ix.now c.args.w c.args.frames.from c.loop-k.k c.loop-k.sum-items (take c.args.frames.count c.args.out.now) c.add_frame.result c.loop-k.invariant (omega arith) c.add_frame.ensures
