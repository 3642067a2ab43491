use Rattle.std.proofs.Common.{◌≡◌, ◌+◌, ◌-◌, ◌<◌, length, take, drop, sym, refl, ap, ◌∙◌, arith, length-set}
use Rattle.row_smoothing.specs.Smoothing.{smoothed_at}
use Rattle.row_smoothing.proofs.Laws.{filled_none, filled-turn, filled-done, filled-part}
use Rattle.row_smoothing.proofs.inner.ends.Goals as goal

pub loop-j-init : goal.loop-j-init
loop-j-init c = (omega arith, refl, sym (filled_none _ 0 _))

pub loop-j-preserved : goal.loop-j-preserved
loop-j-preserved c = let v = c.loop-j.invariant in
    let j = c.loop-j.j in
    let u = c.args.u.now in
    let y = c.args.src.now in
    let e : c.args.from + j ≡ j + c.args.from = omega arith in
    let less : j < length (take (c.args.to - c.args.from) (drop c.args.from c.args.dst.now)) = omega arith in (
      omega arith,
      rw length-set v.1,
      filled-turn (λ j. smoothed_at u y (j + c.args.from)) 0 j (take (c.args.to - c.args.from) (drop c.args.from c.args.dst.now)) c.loop-j.part c.end_at.result (omega arith) less v.2 (c.end_at.ensures ∙ ap (smoothed_at u y) e),
    )

pub returns : goal.returns
returns c = let v = c.loop-j.invariant in
    let f = smoothed_at c.args.u.now c.args.src.now in
    filled-part f c.args.from c.args.to c.args.dst.now c.loop-j.part c.requires.0 (omega arith)
    (filled-done (λ j. f (j + c.args.from)) (take (c.args.to - c.args.from) (drop c.args.from c.args.dst.now)) c.loop-j.part c.loop-j.j (omega arith) v.2)
