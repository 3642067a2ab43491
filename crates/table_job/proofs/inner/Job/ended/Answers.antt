use mathlib.Core.Path.{refl}
use Prim.Native.Nat.{◌≤◌}
use native.Mathlib.Omega.{arith}
use lib.ListN.{length, take}
use Rattle.table_lines.specs.Bytes.{text_from}
use Rattle.table_job.proofs.Laws.{added, over-within, over-ends}
use Rattle.table_job.proofs.inner.Job.ended.Goals as goal

pub returns : goal.returns
returns c =
    let p = c.put_last-used in
    let j = c.args.self in
    let r = c.requires.0 in
    let m : j.waiting ≤ length c.args.out.now = omega (arith, r.text) in
    let a = added c.args.out.now (text_from j.progress (take j.have c.args.buf.now)) p.new.out j.waiting p.result m p.ensures.count p.ensures.room p.ensures.front in
    rw c.over.ensures (record {
      within = over-within c.args.buf.now (length c.args.out.now) p.result j (omega (arith, r.more)) a.room;
      ends = λ input gone h. over-ends input gone c.args.buf.now c.args.out.now _ j p.result m c.requires.1 r.front a h;
      progress_unchanged = refl;
    })
