use Rattle.row_spans.proofs.Laws.{reach-left, reach-right, reach-width, memo-later, memo-more, looked, looked-narrow, looked-wide}
use Prim.Native.Nat.{◌+◌}
use native.Mathlib.Omega.{arith}
use Rattle.row_spans.specs.Span.{span_of}
use Rattle.row_spans.proofs.inner.Apex.measure.Goals as goal

pub keep-requires : goal.keep-requires
keep-requires c = let y = c.args.self.y.now in
    let z = c.args.self.z.now in
    let e = c.reach_of-r.ensures in
    (omega arith, omega (arith, reach-left y z c.args.self.h c.args.self.i _ e), omega (arith, reach-right y z c.args.self.h c.args.self.i _ e))

pub returns-then-depth-memo : goal.returns-then-depth-memo
returns-then-depth-memo c = let y = c.args.self.y.now in
    let z = c.args.self.z.now in
    let h = c.args.self.h in
    let i = c.args.self.i in
    let e = c.reach_of-r.ensures in
    looked y z h i c.args.least (c.args.d + 1) c.span_of-s.result c.keep.new.memo
    (memo-more y z h i _ _ c.args.d _ c.args.memo.now c.keep.new.memo (omega arith) (omega arith) c.keep.auto.memo (reach-left y z h i _ e) (reach-right y z h i _ e) (c.is_long.ensures c.if-is_long.true) c.span_of-s.ensures c.keep.ensures c.requires)
    c.if_wide.ensures c.span_of-s.ensures

pub returns-then-r-least : goal.returns-then-r-least
returns-then-r-least c = let y = c.args.self.y.now in
    let z = c.args.self.z.now in
    looked-narrow y z c.args.self.h c.args.self.i c.args.least c.args.d (span_of y z c.args.self.h c.args.self.i) c.args.memo.now (memo-later y z c.args.memo.now c.args.d c.args.self.i (c.args.self.i + 1) (omega arith) c.requires) _ (reach-width y z c.args.self.h c.args.self.i _ c.reach_of-r.ensures) c.if-r-least.true

pub returns : goal.returns
returns c = let y = c.args.self.y.now in
    let z = c.args.self.z.now in
    looked-wide y z c.args.self.h c.args.self.i c.args.least c.args.d _ c.args.memo.now (memo-later y z c.args.memo.now c.args.d c.args.self.i (c.args.self.i + 1) (omega arith) c.requires) _ (reach-width y z c.args.self.h c.args.self.i _ c.reach_of-r.ensures) c.if-r-least.false c.span_of.ensures
