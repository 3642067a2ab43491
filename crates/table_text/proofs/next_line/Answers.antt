use Rattle.std.proofs.Common.{sym, ◌∙◌, ap, arith, eqb, Some, None}
use Rattle.std.specs.List.{position}
use Rattle.std.proofs.lemmas.List.{take_rest}
use Rattle.table_text.specs.Text.{lf}
use Rattle.table_text.proofs.Laws.{lf-none, lf-behind}
use Rattle.table_text.proofs.next_line.Goals as goal

pub returns-then-bytes-from : goal.returns-then-bytes-from
returns-then-bytes-from c = sym (lf-none c.args.bytes.now c.args.from (omega arith))

pub returns-in_err-k : goal.returns-in_err-k
returns-in_err-k c =
    let l = c.args.bytes.now in
    c.from_residual.ensures ∙ lf-behind l c.args.from _ None (omega arith) (c.in_err-k.ensures ∙ ap (position (λ b. eqb b lf)) (take_rest l _))

pub returns : goal.returns
returns c =
    let l = c.args.bytes.now in lf-behind l c.args.from _ (Some _) (omega arith) (c.in_ok-k.ensures ∙ ap (position (λ b. eqb b lf)) (take_rest l _))
