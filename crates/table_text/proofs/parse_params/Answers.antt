use Rattle.std.proofs.Common.{sym, ◌∙◌}
use Rattle.table_text.proofs.Laws.{four-fields}
use Rattle.table_text.proofs.parse_params.Goals as goal

pub returns-then-is_some : goal.returns-then-is_some
returns-then-is_some c =
    four-fields c.args.line.now c.in_ok-floor.floor.now c.in_ok-distance.distance.now c.in_ok-floor.rest.now c.in_ok-distance.width.now c.cut-3.result
    (λ p. p.0.now) (λ p. p.1.now) c.in_ok-floor.ensures c.in_ok-distance.ensures c.cut-3.ensures (sym c.is_some.ensures ∙ c.if-is_some.true)
