use Rattle.std.proofs.Common.{◌≡◌, [], sym, ◌∙◌, length, arith, take_all}
use Rattle.frames_index.specs.FrameIndex.{index_of}
use Rattle.frames_sums.proofs.Laws.{points_none, points-in, points-out, points-each}
use Rattle.frames_sums.proofs.inner.add_each.Goals.{then-has_scan, else-has_scan}
use Rattle.frames_sums.proofs.inner.add_each.Goals as goal

pub loop-k-init : goal.loop-k-init
loop-k-init c = let s = c.args in
    (omega arith, sym (points_none (index_of [] [] [] s.scans.now s.readings.now) s.w 0 0 s.so (omega arith)))

pub loop-k-preserved : goal.loop-k-preserved
loop-k-preserved c = let s = c.args in
    let ix = index_of [] [] [] s.scans.now s.readings.now in
    let k = c.loop-k.k in
    let v = c.loop-k.invariant in
    let so = c.loop-k.sum in (
      omega (arith, c.loop-k-test.true),
      elim c.if-has_scan.branch [
        | then-has_scan t ↦ rw t.sum-is (points-in ix s.w k s.so so v.1 (sym c.has_scan.ensures ∙ t.if-has_scan.true))
        | else-has_scan t ↦ rw t.sum-is (points-out ix s.w k s.so so v.1 (sym c.has_scan.ensures ∙ t.if-has_scan.false))
      ],
    )

pub returns : goal.returns
returns c = let s = c.args in
    let n = length s.scans.now in
    let v = c.loop-k.invariant in
    let e : c.loop-k.k ≡ n = omega (arith, c.loop-k-test.false, v.0) in
    let each = points-each (index_of [] [] [] s.scans.now s.readings.now) s.w n 0 s.so (omega arith) (omega (arith, c.requires)) in
    rw e at v.1 ∙ rw (take_all n s.scans.now (omega arith), take_all n s.readings.now (omega (arith, c.requires))) at each
