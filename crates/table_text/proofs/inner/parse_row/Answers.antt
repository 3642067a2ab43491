use mathlib.Core.Path.{refl, sym, ◌∙◌, ap}
use Prim.Native.Nat.{◌≤◌}
use native.Mathlib.Omega.{arith}
use lib.ListN.{length, take, drop, set, length-drop, length-set}
use lib.Seq.{length-take-le, drop-drop}
use Rattle.std.proofs.Common.{◌≡◌, ◌+◌, ◌-◌}
use Rattle.std.proofs.lemmas.List.{take_rest}
use Rattle.table_text.specs.Sizes.{max_number}
use Rattle.table_text.specs.Text.{comma_at, fields, value}
use Rattle.numeric.specs.Arith.{index_f}
use Rattle.table_text.proofs.Laws.{here, here-last, here-more, end-most, end-number, end-comma, got-none, got-next, got-bad, got-wide, got-all, got-rest, no-number, the-number, bad-answer, row-answer}
use Rattle.table_text.proofs.inner.parse_row.Goals as goal

-- the place behind a comma
behind : (c : goal.Else-end-rest) → c.loop-count.from + (c.comma_at-end.result + 1) ≤ length c.args.line.now
behind c =
    let o = c.loop-count in
    let line = c.args.line.now in
    let r = take (length line - o.from) (drop o.from line) in
    let m : c.comma_at-end.result ≤ length r = end-most r c.min.result c.comma_at-end.result (omega (arith, c.min.ensures)) c.comma_at-end.ensures in
    let l : length r ≡ length line - o.from = ap length (take_rest line o.from) ∙ length-drop o.from line in
    omega (arith, o.invariant.0, m, l, c.if-end-rest.false)

pub loop-count-init : goal.loop-count-init
loop-count-init c = (omega arith, refl, got-none c.args.line.now c.args.row.now, refl)

pub slice_bounds-field-end : goal.slice_bounds-field-end
slice_bounds-field-end c =
    let line = c.args.line.now in
    let r = take (length line - c.loop-count.from) (drop c.loop-count.from line) in
    sym (length-take-le c.comma_at-end.result r (end-most r c.min.result c.comma_at-end.result (omega (arith, c.min.ensures)) c.comma_at-end.ensures))

pub returns-in_err-number : goal.returns-in_err-number
returns-in_err-number c =
    let o = c.loop-count in
    let i = o.invariant in
    let e = c.comma_at-end.result in
    let line = c.args.line.now in
    let row = c.args.row.now in
    let r = take (length line - o.from) (drop o.from line) in
    let u = here line o.count r (i.3 ∙ ap fields (sym (take_rest line o.from))) in
    let g = sym (end-number r c.min.result e (omega (arith, c.min.ensures)) c.comma_at-end.ensures max_number) ∙ no-number max_number (take e r) c.in_err-number.ensures in
    let a = bad-answer line row o.row (got-bad line row o.row o.count i.2 (take (comma_at r) r) u.0 u.1 g) (got-rest line row o.row o.count i.2) in
    record { text = c.from_residual.ensures ∙ a.0; front = a.1.0; rest = a.1.1 }

pub returns-then-end-rest : goal.returns-then-end-rest
returns-then-end-rest c =
    let o = c.loop-count in
    let i = o.invariant in
    let e = c.comma_at-end.result in
    let line = c.args.line.now in
    let row = c.args.row.now in
    let r = take (length line - o.from) (drop o.from line) in
    let p = i.3 ∙ ap fields (sym (take_rest line o.from)) in
    let u = here line o.count r p in
    let n = the-number max_number (take e r) _ c.in_ok-number.ensures in
    let k : e ≡ comma_at r = end-comma r c.min.result e (omega (arith, c.min.ensures)) c.comma_at-end.ensures max_number n.0 in
    let f = take (comma_at r) r in
    let t = c.loop-count-test.true in
    let s = got-next line row o.row o.count i.2 f u.0 u.1 (rw (← k) n.0) t (omega (arith, c.requires, t)) in
    let z : o.count + 1 ≡ length (fields line) = here-last line o.count r p (omega (arith, c.if-end-rest.true, k)) in
    let w = got-all line row (set o.row o.count (index_f (value f))) (o.count + 1) s z in
    let a = row-answer line row (set o.row o.count (index_f (value f))) (o.count + 1) (w.0, sym z, w.1) (got-rest line row (set o.row o.count (index_f (value f))) (o.count + 1) s) in
    rw (c.of_u32.ensures, n.1, k) (record { text = a.0; front = a.1.0; rest = a.1.1 })

pub overflow_add-from : goal.overflow_add-from
overflow_add-from c = omega (arith, behind c, c.well_formed)

pub overflow_add-from-in-loop-count : goal.overflow_add-from-in-loop-count
overflow_add-from-in-loop-count c = omega (arith, behind c, c.well_formed)

pub loop-count-preserved : goal.loop-count-preserved
loop-count-preserved c =
    let o = c.loop-count in
    let i = o.invariant in
    let e = c.comma_at-end.result in
    let line = c.args.line.now in
    let row = c.args.row.now in
    let r = take (length line - o.from) (drop o.from line) in
    let p = i.3 ∙ ap fields (sym (take_rest line o.from)) in
    let u = here line o.count r p in
    let n = the-number max_number (take e r) _ c.in_ok-number.ensures in
    let k : e ≡ comma_at r = end-comma r c.min.result e (omega (arith, c.min.ensures)) c.comma_at-end.ensures max_number n.0 in
    let m : e ≤ length r = end-most r c.min.result e (omega (arith, c.min.ensures)) c.comma_at-end.ensures in
    let t = c.loop-count-test.true in
    let s = got-next line row o.row o.count i.2 (take (comma_at r) r) u.0 u.1 (rw (← k) n.0) t (omega (arith, c.requires, t)) in
    let d = here-more line o.count r p (omega (arith, c.if-end-rest.false, k, m)) in
    rw (c.of_u32.ensures, n.1) (
      behind c,
      length-set o.row o.count _ ∙ i.1,
      rw k s,
      d ∙ ap (λ z. fields (drop (comma_at r + 1) z)) (take_rest line o.from) ∙ ap fields (drop-drop (comma_at r + 1) o.from line) ∙ rw k refl,
    )

pub returns : goal.returns
returns c =
    let o = c.loop-count in
    let i = o.invariant in
    let line = c.args.line.now in
    let row = c.args.row.now in
    let r = take (length line - o.from) (drop o.from line) in
    let u = here line o.count r (i.3 ∙ ap fields (sym (take_rest line o.from))) in
    let a = bad-answer line row o.row (got-wide line row o.row o.count i.2 u.0 (omega (arith, i.2.few, c.loop-count-test.false))) (got-rest line row o.row o.count i.2) in
    record { text = a.0; front = a.1.0; rest = a.1.1 }
