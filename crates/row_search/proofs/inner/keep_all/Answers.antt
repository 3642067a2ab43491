use mathlib.Core.Path.{◌≡◌, refl, ◌∙◌, ap}
use Prim.Native.Nat.{◌≤◌, ◌<◌, ◌-◌, ◌+◌, ◌*◌}
use native.Mathlib.Omega.{arith}
use borrow.Rule.Slice.PartMut.{same_len_mid}
use Rattle.row_search.specs.Found.{kept_of, after}
use Rattle.row_search.proofs.Laws.{after-le, after-step, kept-of-step, kept-of-count, keeps-later, keeps-none, rest_of, rest-length, put_rest, put_front}
use Rattle.row_turns.specs.Turns.{turn}
use Rattle.row_spans.proofs.Laws.{memo-none, memo-later}
use lib.ListN.{length}
use lib.Ieee.{binary32, of_bits}
use Rattle.row_search.proofs.inner.keep_all.Goals as goal

pub loop-k-init : goal.loop-k-init
loop-k-init c = let a = c.args in
    let d = c.default-s.ensures in
    (omega arith, refl, λ j h. refl, refl, rw d.1.1 (memo-none _ _ _ _), keeps-none a.y.now a.z.now a.found.now a.p a.turns.now c.default-s.result d.0)

pub keep_next-s-requires : goal.keep_next-s-requires
keep_next-s-requires c = let k = c.loop-k.k in
    let inv = c.loop-k.invariant in
    let found = c.requires.0 in
    let less : k < c.args.m = omega arith in
    let few = kept-of-count c.args.p c.args.y.now c.args.turns.now k in
    let some = inv.5.count in
    let behind = after-le found k less in (
      record {
        base-is = c.float_of-base.ensures ∙ ap (of_bits binary32) (inv.2 k less) ∙ found.bases-are k less;
        low = omega (arith, found.low k less);
        high = omega (arith, found.high k less);
        short = c.requires.1;
        raw-short = c.requires.2;
      },
      memo-later c.args.y.now c.args.z.now (rest_of c.args.m c.loop-k.bases) c.loop-k.s.depth (after c.args.turns.now k) (turn c.args.turns.now (2 * k + 1)) (omega arith) inv.4,
      omega (arith, c.requires.3),
      (λ h. let b = inv.5.behind h in omega arith),
    )

pub loop-k-preserved : goal.loop-k-preserved
loop-k-preserved c = let k = c.loop-k.k in
    let inv = c.loop-k.invariant in
    let y = c.args.y.now in
    let turns = c.args.turns.now in
    let less : k < c.args.m = omega arith in
    let r = c.keep_next-s.ensures in
    let before = keeps-later (turn turns (2 * k + 1)) (let b = after-le c.requires.0 k less in omega arith) inv.5 in
    let m = c.args.m in
    let bases = c.loop-k.bases in
    let memo = c.keep_next-s.new.memo in
    let fits : m ≤ length bases = omega arith in
    let same : length memo ≡ length bases - m = c.keep_next-s.auto.memo ∙ rest-length m bases in (
      omega arith,
      same_len_mid m (length bases - m) bases memo c.keep_next-s.auto.memo ∙ inv.1,
      λ j h. put_front bases memo m fits j h ∙ inv.2 j h,
      c.keep_next-s.auto.found ∙ inv.3,
      rw (after-step turns k, put_rest bases memo m fits same) r.0,
      rw (after-step turns k, kept-of-step c.args.p y turns k) (r.1 (kept_of c.args.p y turns k) before),
    )
