use Rattle.std.proofs.Common.{sym, ◌∙◌, ap, Some}
use Rattle.table_faults.specs.declared.Fault.{Fault}
use Rattle.table_faults.proofs.Laws.{error}
use Rattle.table_faults.proofs.Told.{params_bad, params_count, params-none}
use Rattle.table_faults.proofs.check_params.Goals as goal

pub returns-in_err-fields : goal.returns-in_err-fields
returns-in_err-fields c =
    error c.from_residual.result _ c.from_residual.ensures ∙ sym (params_bad c.args.line.now _ (sym c.in_err-fields.ensures.fault))

pub returns-then-fields-ne3 : goal.returns-then-fields-ne3
returns-then-fields-ne3 c =
    let e = c.in_ok-fields.ensures in
    ap (λ n. Some (Fault.NotThree n)) e.count ∙ sym (params_count c.args.line.now (sym e.fault) (λ q. c.if-fields-ne3.true (e.count ∙ q)))

pub returns : goal.returns
returns c =
    let e = c.in_ok-fields.ensures in
    sym (params-none c.args.line.now (sym e.fault) (sym e.count ∙ c.if-fields-ne3.false))
