use Rattle.std.proofs.Common.{◌≡◌, refl, ◌∙◌, length, arith}
use lib.Seq.{take_all}
use Rattle.rt_peaks.proofs.Laws.{none-put, next-put}
use Rattle.rt_peaks.proofs.inner.put_rt_peaks.Goals as goal

pub loop-k-init : goal.loop-k-init
loop-k-init c = let s = c.args in
    let t = s.trace in
    (refl, none-put t.smoothed.now t.raw.now t.times.now s.found.now s.order.now s.out.now)

pub loop-k-preserved : goal.loop-k-preserved
loop-k-preserved c = let s = c.args in
    let t = s.trace in
    let inv = c.loop-k.invariant in (
      c.put_local.auto.out ∙ inv.0,
      next-put t.smoothed.now t.raw.now t.times.now s.found.now s.order.now s.out.now c.loop-k.k c.loop-k.out c.put_local.new.out c.local_peak.result c.loop-k-test.true inv.1
          c.local_peak.ensures c.put_local.ensures,
    )

pub returns : goal.returns
returns c = let order = c.args.order.now in
    let e : c.loop-k.k ≡ length order = omega arith in
    c.loop-k.invariant.1 ∙ rw (e, take_all (length order) order (omega arith))
