use mathlib.Core.Path.{refl, sym, ◌∙◌, ap}
use mathlib.Core.Bool.{Bool, true, false, cond}
use Rattle.refusal.proofs.Bools.{clash}
use Prim.Native.Nat.{◌-◌, ◌+◌}
use native.Mathlib.Omega.{arith}
use Rattle.row_search.proofs.Laws.{wide_is, span-is, unkept, blocked, put-kept, too-low, too-narrow, wide_enough, rise-is, measured-is}
use Rattle.row_spans.proofs.Laws.{memo-later}
use Rattle.row_search.proofs.inner.keep_next.Goals.{then-near+else-y-i, else-near}
use Rattle.row_spans.proofs.Laws.{none-narrow, some-wide}
use Rattle.row_spans.specs.Span.{span_of}
use Rattle.numeric.specs.Arith.{◌⊕◌, ◌⊗◌, ◌⊖◌, ½, at}
use Rattle.row_search.proofs.inner.keep_next.Goals as goal

pub returns-then-prominence-p : goal.returns-then-prominence-p
returns-then-prominence-p c = let a = c.requires.0 in
    (memo-later c.args.y.now c.args.z.now c.args.memo.now c.args.s.depth c.args.i (c.args.i + 1) (omega arith) c.requires.1, unkept c.args.p c.args.s refl refl (too-low c.args.p c.args.y.now c.args.i c.args.base a.base-is c.if-prominence-p.true))

pub returns-then-y-i : goal.returns-then-y-i
returns-then-y-i c = let s = c in
    (memo-later s.args.y.now s.args.z.now s.args.memo.now s.args.s.depth s.args.i (s.args.i + 1) (omega arith) s.requires.1, blocked s.args.p (sym c.is_near-near.ensures ∙ c.if-near.true) c.if-y-i.true)

pub returns-in_default : goal.returns-in_default
returns-in_default c = let s = c.args in
    let narrow = none-narrow s.p.min_width_scans (span_of s.y.now s.z.now (s.base ⊕ ½ ⊗ (at s.y.now s.i ⊖ s.base)) s.i) (sym c.look_at-seen.ensures.span ∙ c.in_default.is) in
    (c.look_at-seen.ensures.kept, unkept s.p _ refl refl (too-narrow s.p s.y.now s.i s.base c.requires.0.base-is (wide_is s.p s.y.now s.z.now s.i s.base c.requires.0.base-is false false (sym narrow) refl)))

pub returns : goal.returns
returns c = let s = c.args in
    let y = s.y.now in
    let z = s.z.now in
    let i = s.i in
    let p = s.p in
    let a = c.requires.0 in
    let b = a.base-is in
    let seen = some-wide p.min_width_scans (span_of y z (s.base ⊕ ½ ⊗ (at y i ⊖ s.base)) i) c.in-Some.a (sym c.look_at-seen.ensures.span ∙ c.in-Some.is) in (
      c.look_at-seen.ensures.kept,
      (λ ks k. rw c.put_measured.ensures.words
          (put-kept p c.place_for-place.result c.look_at-seen.result.depth _
          (measured-is y z i c.in-Some.a _ (span-is p y z i s.base b c.in-Some.a seen.1) (rise-is p y i s.base b))
          a.low a.high c.requires.2 c.put_measured.ensures.fit
          (wide_enough p y i s.base b c.if-prominence-p.false (wide_is p y z i s.base b true true (sym seen.0) refl))
          (λ h. elim c.if-near.branch [ then-near+else-y-i v ↦ v.if-y-i.false | else-near v ↦ clash c.is_near-near.result (c.is_near-near.ensures ∙ h) v.if-near.false ])
          (c.place_for-place.ensures ∙ ap (λ (b : Bool). cond b (s.s.count - 1) s.s.count) c.is_near-near.ensures)
          ks k)),
    )
