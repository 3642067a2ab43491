use Rattle.std.proofs.Common.{List, ◌++◌, sym, ◌∙◌, ap, arith}
use Rattle.std.specs.Prelude.{Float}
use Rattle.numeric.specs.Arith.{𝟎}
use Rattle.frames_sums.proofs.Laws.{sums_none, sums-put}
use Rattle.frames_window_sums.proofs.inner.put_sums.Goals as goal

pub loop-k-init : goal.loop-k-init
loop-k-init c = sym (ap (λ (x : List Float). x ++ c.args.out.now) (sums_none c.args.ix.now c.args.w c.args.frames.from))

pub add_points-requires : goal.add_points-requires
add_points-requires c = let p = rw (← c.ix.view_is) at c.span_from-p.ensures in (p.order, p.most, c.ix.invariant.readings)

pub loop-k-preserved : goal.loop-k-preserved
loop-k-preserved c =
    let p = rw (← c.ix.view_is) at c.span_from-p.ensures in
    let sum = c.add_points.ensures _ _ _ ∙ sym (p.sum c.args.w.scan_lo c.args.w.scan_hi 𝟎) in
    sums-put c.args.ix.now c.args.w c.args.frames.from c.loop-k.k c.loop-k.out c.args.out.now c.add_points.result c.loop-k.invariant (omega arith) (rw (← c.ix.view_is) sum)
