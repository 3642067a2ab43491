use mathlib.Core.Path.{ap}
use Prim.Native.Nat.{◌≤◌, ◌-◌}
use native.Mathlib.Omega.{arith}
use lib.ListN.{length, drop, take, length-drop}
use Rattle.table_text.specs.Print.{refusal}
use Rattle.table_job.specs.Stands.{over}
use Rattle.table_job.proofs.Laws.{added}
use Rattle.table_job.proofs.inner.Job.refused.Goals as goal
use Rattle.std.proofs.lemmas.List.{take_rest}

pub returns : goal.returns
returns c =
    let p = c.put_refusal-used in
    let out = c.args.out.now in
    let w = c.args.self.waiting in
    let room : p.result ≤ length (take (length out - w) (drop w out)) = rw (take_rest out w, length-drop) (omega (arith, p.ensures.value, c.requires)) in
    rw c.over.ensures (ap (over c.args.self) p.ensures.value, added out refusal p.new.out w p.result (omega (arith, c.requires)) p.ensures.value room p.ensures.out_after)
