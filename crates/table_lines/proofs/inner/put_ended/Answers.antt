use mathlib.Core.Path.{◌≡◌, refl, sym, ◌∙◌}
use Prim.Native.Nat.{◌+◌}
use native.Mathlib.Omega.{arith}
use lib.ListN.{length}
use Rattle.table_text.specs.declared.Verdict.{Verdict}
use Rattle.table_lines.specs.Bytes.{after_line}
use Rattle.table_lines.proofs.Laws.{cr-some, after-from, put_ended, put-lone}
use Rattle.table_lines.proofs.inner.put_ended.Goals as goal

pub overflow_sub-n : goal.overflow_sub-n
overflow_sub-n c = let x = c.args.text.now in omega (arith, cr-some x (sym c.ends_in_cr.ensures ∙ c.if-ends_in_cr.true))

pub returns-then-ends_in_cr : goal.returns-then-ends_in_cr
returns-then-ends_in_cr c =
    let x = c.args.text.now in
    let p = c.put_line-p in
    let e = p.ensures in
    let v = p.result.verdict in
    let k = p.result.used in
    let r : c.after_line.result ≡ after_line c.args.s v (length x + 1) k = c.after_line.ensures in
    let cr = sym c.ends_in_cr.ensures ∙ c.if-ends_in_cr.true in
    rw r (record { put = put_ended c.args.s x c.requires.0 c.args.out.now p.new.out k e.room cr v e.verdict e.count e.front; from_value = after-from c.args.s v (length x + 1) k })

pub returns : goal.returns
returns c =
    let x = c.args.text.now in
    let p = c.put_refusal-used in
    let r : c.after_line-2.result ≡ after_line c.args.s Verdict.Refused (length x + 1) p.result = c.after_line-2.ensures in
    let cr = sym c.ends_in_cr.ensures ∙ c.if-ends_in_cr.false in
    rw r (record { put = put-lone c.args.s x c.requires.0 c.args.out.now p.new.out p.result (omega (arith, p.ensures.value)) cr p.ensures.value p.ensures.out_after; from_value = refl })
