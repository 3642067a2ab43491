use Rattle.std.proofs.Common.{rules}
use Rattle.table_faults.proofs.Told.{LastLf, behind_lf}
use Rattle.table_faults.proofs.line_start.Goals as goal

pub returns-clause-behind : goal.returns-clause-behind
returns-clause-behind c =
    let h : LastLf c.args.bytes.now c.rposition.result = search rules in
    behind_lf c.args.bytes.now c.rposition.result c.map_or.result h (search rules)
