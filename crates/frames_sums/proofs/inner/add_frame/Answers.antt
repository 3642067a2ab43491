use Rattle.std.proofs.Common.{sym, ◌∙◌}
use Rattle.frames_sums.proofs.inner.add_frame.Goals as goal

pub add_points-requires : goal.add_points-requires
add_points-requires c = let p = rw (← c.ix.view_is) at c.span_of-p.ensures in (p.order, p.most, c.ix.invariant.readings)

pub returns : goal.returns
returns c =
    let p = rw (← c.ix.view_is) at c.span_of-p.ensures in
    rw (← c.ix.view_is) (c.add_points.ensures _ _ _ ∙ sym (p.sum c.args.w.scan_lo c.args.w.scan_hi c.args.so))
