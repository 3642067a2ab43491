use mathlib.Core.Path.{refl, sym, ◌∙◌}
use Prim.Native.Nat.{◌<◌}
use native.Mathlib.Omega.{arith}
use lib.Dec.{eqb}
use lib.ListN.{length, get_or}
use Rattle.std.proofs.Common.{◌≡◌, rules, tests}
use Rattle.std.proofs.lemmas.List.{length_push}
use Rattle.std.proofs.lemmas.Iterator.Splits.{YieldsList-from_slice_split}
use Rattle.std.proofs.lemmas.Iterator.Consumers.{YieldsList-turn, YieldsList-end}
use Rattle.table_text.specs.Text.{comma, fields}
use Rattle.table_text.proofs.Laws.{fields_split}
use Rattle.table_faults.proofs.Laws.{err_or-ok, error, seen-none, seen-room, seen-next, seen-bad, seen-fault, seen-all, seen-good}
use Rattle.table_faults.proofs.count_fields.Goals.{In-Some}
use Rattle.table_faults.proofs.count_fields.Goals as goal

-- the field of this turn
turn : (c : In-Some) → (c.loop-text.count < length (fields c.args.line.now)) × (c.in-Some.text.now ≡ get_or (fields c.args.line.now) c.loop-text.count c.in-Some.text.now)
turn c =
    let o = c.loop-text in
    let t = YieldsList-turn (YieldsList-from_slice_split _ (λ b. eqb b comma) c.args.line.now (cc) (cc) (cc) (λ x b q k. search (rules, tests))) o.yielded o.text-iterator o.yielded_by c.next.result c.next.new.self c.in-Some.text c.in-Some.is c.next.ensures.steps in
    (rw (fields_split c.args.line.now) (omega (arith, t.0, o.invariant.0)), rw (fields_split c.args.line.now, o.invariant.0) t.1)

pub loop-text-init : goal.loop-text-init
loop-text-init c = (refl, seen-none c.args.kind c.args.line.now)

pub check_field-requires : goal.check_field-requires
check_field-requires c =
    let o = c.loop-text in
    let line = c.args.line.now in
    let u = turn (goal.at.check_field-requires c).In-Some in
    let r = seen-room c.args.kind line o.count o.at o.invariant.1 c.in-Some.text.now u.0 u.1 in
    omega (arith, r)

pub overflow_add-at-in-loop-text : goal.overflow_add-at-in-loop-text
overflow_add-at-in-loop-text c =
    let o = c.loop-text in
    let line = c.args.line.now in
    let u = turn (goal.at.overflow_add-at-in-loop-text c).In-Some in
    let r = seen-room c.args.kind line o.count o.at o.invariant.1 c.in-Some.text.now u.0 u.1 in
    omega (arith, r)

pub returns-in_err-check_field : goal.returns-in_err-check_field
returns-in_err-check_field c =
    let o = c.loop-text in
    let line = c.args.line.now in
    let u = turn (goal.at.returns-in_err-check_field c).In-Some in
    let e = c.in_err-check_field.ensures in
    let w = seen-bad c.args.kind line o.count o.at o.invariant.1 c.in-Some.text.now u.0 u.1 (sym e.good) in
    let x = seen-fault c.args.kind line o.count o.at o.invariant.1 c.in-Some.text.now u.0 u.1 _ (sym e.fault) in
    let r = err_or-ok c.from_residual.result _ c.from_residual.ensures.0 in
    record { good = r.0 ∙ sym w; count = r.1; fault = error c.from_residual.result _ c.from_residual.ensures ∙ sym x }

pub loop-text-preserved : goal.loop-text-preserved
loop-text-preserved c =
    let o = c.loop-text in
    let line = c.args.line.now in
    let u = turn (goal.at.loop-text-preserved c).In-Some in
    let e = c.in_ok-check_field.ensures in (
      omega (arith, o.invariant.0, length_push o.yielded c.in-Some.text),
      seen-next c.args.kind line o.count o.at o.invariant.1 c.in-Some.text.now u.0 u.1 (sym e.good) (sym e.fault),
    )

pub returns : goal.returns
returns c =
    let o = c.loop-text in
    let line = c.args.line.now in
    let z = YieldsList-end (YieldsList-from_slice_split _ (λ b. eqb b comma) c.args.line.now (cc) (cc) (cc) (λ x b q k. search (rules, tests))) o.yielded o.text-iterator o.yielded_by c.next.result c.next.new.self c.in-None.is c.next.ensures.steps in
    let n : o.count ≡ length (fields line) = rw (fields_split line) (o.invariant.0 ∙ z.1) in
    record {
      good = sym (seen-all c.args.kind line o.count o.at o.invariant.1 n);
      count = n;
      fault = sym (seen-good c.args.kind line o.count o.at o.invariant.1 n);
    }
