use Rattle.std.proofs.Common.{rules, ◌≡◌}
use Rattle.table_text.specs.Text.{is_number, value, number_text}
use Rattle.table_faults.specs.Faults.{field_fault, bad_field, limit_of}
use Rattle.table_faults.proofs.Told.{from_number}
use Rattle.table_faults.proofs.check_field.Goals as goal

pub returns-clause-fault : goal.returns-clause-fault
unfolding field_fault
returns-clause-fault c =
    let k = limit_of c.args.kind c.args.field in
    let f = c.args.text.now in
    let n : c.number.result ≡ number_text k f = rw (← c.limit_of-limit.ensures) c.number.ensures in
    from_number (is_number k f) (value f) (bad_field k c.args.field c.args.at f) c.number.result _ n (rw (← c.limit_of-limit.ensures) (search rules))
