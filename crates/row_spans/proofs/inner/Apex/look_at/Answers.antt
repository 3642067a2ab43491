use Prim.Native.Nat.{◌+◌}
use native.Mathlib.Omega.{arith}
use Rattle.row_spans.proofs.Laws.{memo-fewer, memo-later, looked, serves-at}
use Rattle.row_spans.proofs.inner.Apex.look_at.Goals as goal

pub returns-then-memo-d : goal.returns-then-memo-d
returns-then-memo-d c = let y = c.args.self.y.now in
    let z = c.args.self.z.now in
    let h = c.args.self.h in
    let i = c.args.self.i in
    let m = c.args.memo.now in
    let d = c.still_open-d.result in
    let g = memo-fewer y z m c.args.depth d i c.still_open-d.ensures.few c.requires in
    looked y z h i c.args.least d c.kept_span-s.result m (memo-later y z m d i (i + 1) (omega arith) g)
    c.if_wide.ensures (serves-at y z h i d c.kept_word.result m c.kept_span-s.result g c.if-d-gt0.true (c.still_open-d.ensures.right c.if-d-gt0.true) c.if-memo-d.true c.kept_word.ensures.tells c.kept_span-s.ensures)
