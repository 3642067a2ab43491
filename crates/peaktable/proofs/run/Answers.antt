use mathlib.Core.Path.{refl, ◌∙◌}
use mathlib.Core.List.{[], ◌++◌}
use native.Mathlib.Omega.{arith}
use lib.ListN.{length}
use borrow.Author.Tests.{not-true, not-false}
use Rattle.table_job.specs.Stands.{held, Within, Ready}
use Rattle.table_job.proofs.Laws.{stands-first, stands_read, stands-written, ends-refused, within_first, within-written, within-read, stands-end}
use Rattle.peaktable.proofs.run.Goals.{then-out-job-lt-LINE_ROOM+in_ok-write_all, else-out-job-lt-LINE_ROOM+in-Ok}
use Rattle.peaktable.proofs.run.Goals as goal

pub loop-init : goal.loop-init
loop-init g c =
    rw c.start-job.ensures (refl, refl, refl, within_first c.args.buf.now (length c.args.out.now), refl, ([], [], stands-first c.args.buf.now c.args.out.now))

pub finish-requires : goal.finish-requires
finish-requires g c =
    let l = c.loop in
    let w = c.work-job in
    let t = l.invariant.5 in
    let k = w.ensures.keeps t.0 t.1 t.2 in
    let off = not-true _ c.if-not-job.true in
    let r = k.refused off in
    (omega (arith, w.auto.out, w.ensures.within.text), (t.0, t.1, r.0.line ++ held w.new.buf w.result, ends-refused t.0 t.1 w.new.buf w.new.out w.result off k, r.1))

pub loop-preserved : goal.loop-preserved
loop-preserved g c =
    let w = c.work-job in
    let l = c.loop in
    let t = l.invariant.5 in
    let on = not-false _ c.if-not-job.false in
    let k = w.ensures.keeps t.0 t.1 t.2 in
    elim c.if-out-job-lt-LINE_ROOM.branch [
      | then-out-job-lt-LINE_ROOM+in_ok-write_all b ↦
          rw (b.buf-is, b.job-is, b.handed_over-job.ensures) (
            w.auto.buf ∙ l.invariant.0,
            w.auto.row ∙ l.invariant.1,
            w.auto.out ∙ l.invariant.2,
            within-written w.new.buf (length w.new.out) w.result (rw w.auto.out w.ensures.within),
            on,
            (t.0, _, stands-written t.0 t.1 w.new.buf w.new.out w.result k),
          )
      | else-out-job-lt-LINE_ROOM+in-Ok b ↦
          let m = b.more_bytes in
          let n = b.in-Ok.k in
          let h = b.in-Ok.ensures.result_in_bounds in
          let r = w.ensures.ready on (omega (arith, b.if-out-job-lt-LINE_ROOM.false, w.auto.out, w.ensures.within.text)) in
          let r' : Ready w.new.buf (length w.new.out) w.result = rw w.auto.out r in
          let w' : Within w.new.buf (length w.new.out) w.result = rw w.auto.out w.ensures.within in
          rw (b.buf-is, b.job-is, b.with_bytes-job.ensures) (
            m.auto.buf ∙ w.auto.buf ∙ l.invariant.0,
            w.auto.row ∙ l.invariant.1,
            w.auto.out ∙ l.invariant.2,
            within-read w.new.buf m.new.buf (length w.new.out) w.result r' m.ensures.buf_unchanged m.auto.buf n w' (omega (arith, h, m.auto.buf)),
            on,
            (_, t.1, stands_read t.0 t.1 w.new.buf m.new.buf w.new.out w.result n r.front m.ensures.buf_unchanged k),
          )
    ]

pub finish-requires-in-Ok-eq0 : goal.finish-requires-in-Ok-eq0
finish-requires-in-Ok-eq0 g c =
    let d = c.ended-job in
    let m = c.more_bytes in
    let w = c.work-job in
    let l = c.loop in
    let t = l.invariant.5 in
    let on = not-false _ c.if-not-job.false in
    let r = w.ensures.ready on (omega (arith, c.if-out-job-lt-LINE_ROOM.false, w.auto.out, w.ensures.within.text)) in
    let k = w.ensures.keeps t.0 t.1 t.2 in
    let r' : Ready w.new.buf (length w.new.out) w.result = rw w.auto.out r in
    let k' = stands-end w.new.buf m.new.buf (length w.new.out) w.result r' m.ensures.buf_unchanged m.auto.buf t.0 t.1 w.new.out k in
    (omega (arith, d.auto.out, d.ensures.within.text), (t.0, t.1, held w.new.buf w.result, d.ensures.ends t.0 t.1 k', rw d.ensures.progress_unchanged (k.accepted on)))
