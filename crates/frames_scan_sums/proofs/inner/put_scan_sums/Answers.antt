use Rattle.std.proofs.Common.{◌≡◌, ◌-◌, ◌+◌, arith}
use Rattle.frames_scan_sums.specs.Steps.{scans_of}
use Rattle.frames_scan_sums.proofs.Laws.{summing-more, summing-end}
use Rattle.frames_scan_sums.proofs.inner.put_scan_sums.Goals as goal

pub loop-f-preserved : goal.loop-f-preserved
loop-f-preserved c =
    let k = c.loop-f.f - c.args.frames.from in
    let e : c.args.frames.from + k ≡ c.loop-f.f = omega arith in
    let n : c.loop-f.f + 1 - c.args.frames.from ≡ k + 1 = omega arith in
    rw n
    (summing-more c.args.ix.now c.args.w c.args.frames.from c.args.frames.count _ k c.span_of-p.result c.loop-f.out _ c.loop-f.invariant (omega arith) (rw e c.span_of-p.ensures) c.deal_points.ensures)

pub returns : goal.returns
returns c = let m : c.args.w.scan_hi - c.args.w.scan_lo + 1 ≡ scans_of c.args.w = omega (arith, c.requires.1) in
    summing-end c.args.ix.now c.args.w c.args.frames.from c.args.frames.count _ c.args.out.now _ m c.clear.ensures (c.loop-f.f - c.args.frames.from) c.loop-f.out c.loop-f.invariant (omega arith) c.requires.2
