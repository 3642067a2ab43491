use Rattle.std.proofs.Common.{◌≡◌, ℕ, ◌+◌, ◌-◌, ◌/◌, ◌<◌, ◌≤◌, ◌∷◌, [], ◌++◌, length, drop, sym, ◌∙◌, arith, length-append, length-drop, add-zero}
use Rattle.std.specs.Iterator.Adapters.{zip_first, zip_second}
use Rattle.std.specs.Slice.Iter.{iter_rest}
use mathlib.Core.Logic.{inl, inr}
use Rattle.std.proofs.Common.{refl}
use Rattle.numeric.specs.Arith.{◌⊕◌, ◌⊗◌, at}
use Rattle.row_smoothing.specs.Smoothing.{weighted, met}
use Rattle.row_smoothing.proofs.Laws.{weighted-in, met-in, none_before, mean-by, front}
use Rattle.std.proofs.lemmas.List.{take_rest}
use Rattle.row_smoothing.proofs.inner.end_at.Goals.{In-None}
use Rattle.row_smoothing.proofs.inner.end_at.Goals as goal

pub loop-w-init : goal.loop-w-init
loop-w-init c = let u = c.args.u.now in
    let k = c.saturating_sub-left.result in
    let none = none_before u c.args.src.now c.args.i k (λ j p. omega (arith, c.saturating_sub-left.ensures)) in
    let e = c.into_iter-w-iterator.ensures.into_iter_gives in
    let first : iter_rest (zip_first c.into_iter-w-iterator.result) ≡ drop k u = rw (e, c.zip-w-items.ensures.first) (c.iter.ensures.rest ∙ take_rest u k) in
    let second : iter_rest (zip_second c.into_iter-w-iterator.result) ≡ drop (c.args.i + k - length u / 2) c.args.src.now = rw e (c.zip-w-items.ensures.second.0 ∙ take_rest c.args.src.now (c.args.i + k - length u / 2)) in
    rw add-zero (omega (arith, c.saturating_sub-left.ensures), omega (arith, c.saturating_sub-left.ensures), first, second, sym none.0, sym none.1)

pub loop-w-preserved : goal.loop-w-preserved
loop-w-preserved c = let u = c.args.u.now in
    let y = c.args.src.now in
    let i = c.args.i in
    let s = c.in-Some.ensures.steps in
    let v = c.loop-w.invariant in
    let k = c.saturating_sub-left.result + length c.loop-w.yielded in
    let f = front u k c.in-Some.field-0-0.now _ (sym v.2 ∙ s.0) in
    let g = front y (i + k - length u / 2) c.in-Some.field-0-1.now _ (sym v.3 ∙ s.1) in
    let more : c.saturating_sub-left.result + length (c.loop-w.yielded ++ ((c.in-Some.field-0-0, c.in-Some.field-0-1) ∷ [])) ≡ k + 1 = rw length-append (omega arith) in
    let sum : c.loop-w.sum ⊕ c.in-Some.field-0-0.now ⊗ c.in-Some.field-0-1.now ≡ weighted u y i k ⊕ at u k ⊗ at y (i + k - length u / 2) = rw (v.4, f.1, g.1) refl in
    let norm : c.loop-w.norm ⊕ c.in-Some.field-0-0.now ≡ met u (length y) i k ⊕ at u k = rw (v.5, f.1) refl in
    let place : i + (k + 1) - length u / 2 ≡ i + k - length u / 2 + 1 = omega (arith, v.1) in
    rw more (
      omega (arith, f.0),
      omega (arith, v.1),
      f.2,
      rw place g.2,
      sum ∙ sym (weighted-in u y i k v.1 (omega (arith, g.0, v.1))),
      norm ∙ sym (met-in u y i k v.1 (omega (arith, g.0, v.1))),
    )

-- the weights or the row have ended
done : (c : In-None) → let k = c.saturating_sub-left.result + length c.loop-w.yielded in
    (j : ℕ) → k ≤ j → j < length c.args.u.now → length c.args.src.now + length c.args.u.now / 2 ≤ c.args.i + j
done c = let u = c.args.u.now in
    let y = c.args.src.now in
    let k = c.saturating_sub-left.result + length c.loop-w.yielded in
    let v = c.loop-w.invariant in
    let a : length (iter_rest (zip_first c.loop-w.w-iterator)) ≡ length u - k = rw v.2 (length-drop _ _) in
    let b : length (iter_rest (zip_second c.loop-w.w-iterator)) ≡ length y - (c.args.i + k - length u / 2) = rw v.3 (length-drop _ _) in
    elim c.in-None.ensures.steps [ inl w ↦ λ j p q. omega (arith, a, w.1.0, v.0) | inr w ↦ λ j p q. omega (arith, b, w.1.0, v.1) ]

pub returns-then-norm : goal.returns-then-norm
returns-then-norm c = let v = c.loop-w.invariant in
    rw c.if-norm.true at (mean-by c.args.u.now c.args.src.now c.args.i _ c.loop-w.sum c.loop-w.norm v.0 (done (goal.at.returns-then-norm c).In-None) v.4 v.5)

pub returns-else-norm : goal.returns-else-norm
returns-else-norm c = let v = c.loop-w.invariant in
    rw c.if-norm.false at (mean-by c.args.u.now c.args.src.now c.args.i _ c.loop-w.sum c.loop-w.norm v.0 (done (goal.at.returns-else-norm c).In-None) v.4 v.5)
