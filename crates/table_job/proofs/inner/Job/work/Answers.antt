use mathlib.Core.Path.{◌≡◌, sym, ◌∙◌, ap, subst}
use mathlib.Core.List.{List, ◌++◌}
use Prim.Native.Nat.{ℕ, ◌<◌, ◌-◌}
use native.Mathlib.Omega.{arith}
use lib.ListN.{length}
use Rattle.table_text.specs.Sizes.{max_line}
use borrow.Author.Tests.{not-false}
use Rattle.refusal.proofs.Bools.{clash}
use Rattle.table_lines.specs.Bytes.{text_from}
use Rattle.table_job.specs.declared.inner.Job.{Job}
use Rattle.table_job.specs.Stands.{at_front, over, Added}
use Rattle.table_job.proofs.Laws.{front-within, full-within, full-stands, full-off, full-refused}
use Rattle.table_job.proofs.inner.Job.work.Goals as goal

pub returns-then-f-buf : goal.returns-then-f-buf
returns-then-f-buf c =
    let l = c.lines-t in
    let a = c.at_front-f in
    let v = c.overlong in
    let t = l.result in
    let buf = c.args.buf.now in
    let buf' = a.new.buf in
    let o = l.new.out in
    let out' = v.new.out in
    let on = not-false _ c.if-not-t.false in
    let w = l.ensures.within.text in
    let n : t.have - t.from ≡ length buf' = ap (λ (f : Job). f.have) (sym a.ensures.value) ∙ c.if-f-buf.true in
    let e : (rest : List ℕ) → (v.result ≡ over (at_front t) (length (text_from t.progress (buf' ++ rest)))) × Added o out' (text_from t.progress (buf' ++ rest)) t.waiting v.result.waiting =
    subst (λ (f : Job). (rest : List ℕ) → (v.result ≡ over f (length (text_from f.progress (buf' ++ rest)))) × Added o out' (text_from f.progress (buf' ++ rest)) f.waiting v.result.waiting) a.ensures.value v.ensures in
    let one = l.ensures.through on (omega (arith, w, c.if-out-t-lt-LINE_ROOM.false, l.auto.out)) in
    let long : max_line < length buf' = omega (arith, c.requires.2, a.auto.buf) in
    record {
      within = full-within buf buf' o out' t v.result a.ensures.buf_after n e (length c.args.out.now) l.auto.out;
      keeps = λ input gone h. full-stands buf buf' o out' t v.result a.ensures.buf_after n e input gone (omega (arith, w, l.auto.out)) on one long (l.ensures.keeps input gone h);
      ready = λ go room. clash v.result.goes_on go (full-off buf buf' o out' t v.result a.ensures.buf_after n e);
      refused = λ off. full-refused buf buf' o out' t v.result a.ensures.buf_after n e one long;
    }

pub returns-clause-within : goal.returns-clause-within
returns-clause-within c =
    let l = c.lines-t in
    let a = c.at_front-f in
    let w = l.ensures.within in
    let on = not-false _ c.if-not-t.false in
    rw a.ensures.value (
    front-within c.args.buf.now a.new.buf l.result a.ensures.buf_after (length c.args.out.now) (omega (arith, w.bytes, a.auto.buf))
    (l.ensures.through on (omega (arith, w.text, c.if-out-t-lt-LINE_ROOM.false, l.auto.out))) w.text)
