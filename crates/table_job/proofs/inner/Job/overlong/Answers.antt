use mathlib.Core.Path.{ap}
use mathlib.Core.List.{◌++◌}
use Prim.Native.Nat.{◌≤◌}
use native.Mathlib.Omega.{arith}
use lib.ListN.{length}
use Rattle.table_lines.specs.Bytes.{text_from}
use Rattle.table_job.specs.Stands.{over}
use Rattle.table_job.proofs.Laws.{added}
use Rattle.table_job.proofs.inner.Job.overlong.Goals as goal

pub returns : goal.returns
returns c =
    let p = c.put_overlong-used in
    let j = c.args.self in
    let w : j.waiting ≤ length c.args.out.now = omega (arith, c.requires.2) in
    rw c.over.ensures (λ rest. (
      ap (over j) (p.ensures.count rest),
      added c.args.out.now (text_from j.progress (c.args.buf.now ++ rest)) p.new.out j.waiting p.result w (p.ensures.count rest) p.ensures.room (p.ensures.front rest),
    ))
