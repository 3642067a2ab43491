use mathlib.Core.Path.{sym, subst}
use mathlib.Core.List.{List, [], ◌∷◌, ◌++◌}
use Prim.Native.Nat.{ℕ, ◌≤◌, ◌<◌, ◌+◌, ◌-◌}
use native.Mathlib.Omega.{arith}
use lib.ListN.{length, drop, take, length-drop}
use Rattle.table_text.specs.Text.{lf}
use Rattle.table_text.specs.Sizes.{line_room}
use Rattle.table_lines.specs.Bytes.{Put}
use Rattle.table_lines.specs.declared.inner.Fed.{Fed}
use Rattle.table_lines.proofs.Laws.{line-length, part-back, put-more, line-place, line-text}
use Rattle.table_lines.proofs.inner.put_next.Goals as goal
use Rattle.std.proofs.lemmas.List.{take_rest}

pub slice_bounds-put_ended-count : goal.slice_bounds-put_ended-count
slice_bounds-put_ended-count c =
    let place : (c.args.f.from ≤ c.args.i) × (c.args.i < length c.args.bytes.now) = line-place c.args.bytes.now c.args.f.from c.args.i c.requires.1 in
    let b = place in omega (arith, b.0, b.1)

pub slice_bounds-put_ended-start : goal.slice_bounds-put_ended-start
slice_bounds-put_ended-start c =
    let place : (c.args.f.from ≤ c.args.i) × (c.args.i < length c.args.bytes.now) = line-place c.args.bytes.now c.args.f.from c.args.i c.requires.1 in
    let b = place in omega (arith, b.0, b.1)

pub slice_bounds-put_ended-end : goal.slice_bounds-put_ended-end
slice_bounds-put_ended-end c =
    let place : (c.args.f.from ≤ c.args.i) × (c.args.i < length c.args.bytes.now) = line-place c.args.bytes.now c.args.f.from c.args.i c.requires.1 in
    let b = place in omega (arith, b.0, b.1)

pub put_ended-p-requires : goal.put_ended-p-requires
put_ended-p-requires c =
    let used = c.args.f.used in
    let room : line_room ≤ length (take (length c.args.out.now - used) (drop used c.args.out.now)) = rw (take_rest c.args.out.now used) (simp length-drop (omega (arith, c.requires.3))) in
    ((line-text c.args.bytes.now c.args.f.from c.args.i c.requires.1).0, c.requires.2, room)

pub overflow_add-result : goal.overflow_add-result
overflow_add-result c =
    let place : (c.args.f.from ≤ c.args.i) × (c.args.i < length c.args.bytes.now) = line-place c.args.bytes.now c.args.f.from c.args.i c.requires.1 in
    let b = place in
    omega (arith, c.put_ended-p.ensures.from_value, line-length c.args.bytes.now c.args.f.from c.args.i c.requires.1, b.0, b.1, c.well_formed)

pub returns : goal.returns
returns c =
    let q = c.put_ended-p in
    let bytes = c.args.bytes.now in
    let out = c.args.out.now in
    let f = c.args.f in
    let last = q.new.out in
    let t = line-text bytes f.from c.args.i c.requires.1 in
    let x = take (c.args.i - f.from) (drop f.from bytes) ++ (lf ∷ []) in
    let r : Fed = record { progress = q.result.progress; goes_on = q.result.goes_on; from = f.from + q.result.from; used = f.used + q.result.used } in
    let g : Put f.progress x (drop f.used out) last q.result = subst (λ (l : List ℕ). Put f.progress x l last q.result) (take_rest out f.used) q.ensures.put in record { put = (λ s₀ out₀ p. subst (λ (l : List ℕ). Put s₀ bytes out₀ l r) (sym (part-back out last f.used)) (put-more s₀ bytes out₀ out x t.1.0 last f q.result p c.requires.0 (omega (arith, c.requires.3)) t.1.1 g)); from_lt_from = omega (arith, q.ensures.from_value) }
