use lib.ListN.{drop_of_length-le}
use Rattle.numeric.specs.Arith.{at}
use Rattle.numeric.specs.Numeric.{max_f}
use Rattle.row_apex.proofs.Laws.{right-cons, walk_none, walk-on, walk-stop, walk-enough}
use mathlib.Core.Path.{sym, ap, ◌∙◌}
use Prim.Native.Nat.{◌≤◌, ◌+◌}
use native.Mathlib.Omega.{arith}
use lib.ListN.{length, drop}
use Rattle.row_apex.proofs.inner.right_least.Goals.{then-loop-r-test+else-not-m-left, else-loop-r-test, then-loop-r-test+then-not-m-left+then-v-apex, then-v-m, else-v-m}
use Rattle.row_apex.proofs.inner.right_least.Goals as goal

pub loop-r-preserved : goal.loop-r-preserved
loop-r-preserved c = let args = c.args in
    let y = args.y.now in
    let k = c.loop-r.r in (
      omega arith,
      omega arith,
      c.loop-r.invariant.2
          ∙ walk-on (at y args.i) c.loop-r.m c.if-v-m.m (at y k) (drop k y) (drop (k + 1) y) (right-cons y k (omega arith))
          (elim c.if-v-m.branch [ then-v-m w ↦ rw (w.if-v-m.true, w.m-is) | else-v-m w ↦ rw (w.if-v-m.false, w.m-is) ])
          c.if-v-apex.false,
    )

pub returns : goal.returns
returns c = let y = c.args.y.now in
    let apex = at y c.args.i in
    let top = c.args.left in
    let k = c.loop-r.r in
    elim c.loop-r-test.branch [
      | then-loop-r-test+else-not-m-left w ↦ rw (w.m-is, w.r-is) (record {
        steps = omega arith;
        low = sym (ap (max_f top) c.loop-r.invariant.2 ∙ walk-enough top apex c.loop-r.m (drop k y) w.if-not-m-left.false);
      })
      | else-loop-r-test w ↦ rw (w.m-is, w.r-is) (record {
        steps = omega arith;
        low = sym (ap (max_f top) (c.loop-r.invariant.2 ∙ walk_none apex c.loop-r.m (drop k y) (let h : length y ≤ k = omega arith in drop_of_length-le y h)));
      })
      | then-loop-r-test+then-not-m-left+then-v-apex w ↦ rw (w.m-is, w.r-is) (record {
        steps = omega arith;
        low = sym
            (ap (max_f top)
            (c.loop-r.invariant.2
            ∙ walk-stop apex c.loop-r.m w.if-v-m.m (at y k) (drop k y) (drop (k + 1) y) (right-cons y k (omega arith))
            (elim w.if-v-m.branch [ then-v-m w' ↦ rw (w'.if-v-m.true, w'.m-is) | else-v-m w' ↦ rw (w'.if-v-m.false, w'.m-is) ])
            w.if-v-apex.true));
      })
    ]
