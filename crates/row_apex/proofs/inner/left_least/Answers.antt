use Rattle.numeric.specs.Arith.{at}
use Rattle.row_apex.specs.Apex.{left_of}
use Rattle.row_apex.proofs.Laws.{left-cons, left-none, walk_none, walk-on, walk-stop, walk-ground, ground-left}
use mathlib.Core.Path.{sym, ◌∙◌}
use Prim.Native.Nat.{◌-◌}
use native.Mathlib.Omega.{arith}
use Rattle.row_apex.proofs.inner.left_least.Goals.{then-loop-l-test+else-ground-m, else-loop-l-test, then-loop-l-test+then-ground-m+then-v-apex, then-v-m, else-v-m}
use Rattle.row_apex.proofs.inner.left_least.Goals as goal

pub loop-l-preserved : goal.loop-l-preserved
loop-l-preserved c = let args = c.args in
    let y = args.y.now in
    let k = c.loop-l.l in (
      omega arith,
      c.loop-l.invariant.1
          ∙ walk-on (at y args.i) c.loop-l.m c.if-v-m.m (at y (k - 1)) (left_of y k) (left_of y (k - 1)) (left-cons y k (omega arith))
          (elim c.if-v-m.branch [ then-v-m w ↦ rw (w.if-v-m.true, w.m-is) | else-v-m w ↦ rw (w.if-v-m.false, w.m-is) ])
          c.if-v-apex.false,
    )

pub returns : goal.returns
returns c = let y = c.args.y.now in
    let apex = at y c.args.i in
    let k = c.loop-l.l in
    elim c.loop-l-test.branch [
      | then-loop-l-test+else-ground-m w ↦ rw (w.m-is, w.l-is) (record {
        steps = omega arith;
        low = sym (c.loop-l.invariant.1 ∙ walk-ground c.args.ground apex c.loop-l.m (left_of y k) c.requires.1.number (ground-left c.args.ground y k c.requires.1.none) w.if-ground-m.false);
      })
      | else-loop-l-test w ↦ rw (w.m-is, w.l-is) (record {
        steps = omega arith;
        low = sym (c.loop-l.invariant.1 ∙ walk_none apex c.loop-l.m (left_of y k) (left-none y k (omega arith)));
      })
      | then-loop-l-test+then-ground-m+then-v-apex w ↦ rw (w.m-is, w.l-is) (record {
        steps = omega arith;
        low = sym
            (c.loop-l.invariant.1
            ∙ walk-stop apex c.loop-l.m w.if-v-m.m (at y (k - 1)) (left_of y k) (left_of y (k - 1)) (left-cons y k (omega arith))
            (elim w.if-v-m.branch [ then-v-m w' ↦ rw (w'.if-v-m.true, w'.m-is) | else-v-m w' ↦ rw (w'.if-v-m.false, w'.m-is) ])
            w.if-v-apex.true);
      })
    ]
