use Rattle.table_text.specs.Print.{decimal}
use Rattle.table_text.proofs.Buffers.{put-next-byte}
use Rattle.table_text.proofs.Facts.{digits-most}
use native.Mathlib.Omega.{arith}
use Rattle.table_text.proofs.inner.put_number.Goals as goal

pub bounds-out-end : goal.bounds-out-end
bounds-out-end c = let d = c.put_decimal-end in omega (arith, c.requires, d.ensures.value, d.auto.out, digits-most 10 c.args.n)

pub overflow_add-result : goal.overflow_add-result
overflow_add-result c = let d = c.put_decimal-end in omega (arith, c.requires, d.ensures.value, c.well_formed.0.0, digits-most 10 c.args.n)

pub returns : goal.returns
returns c = let d = c.put_decimal-end in
    let t = put-next-byte c.args.out.now d.new.out (decimal c.args.n) c.args.at d.result 44 (d.ensures.value, d.ensures.out_after) (omega (arith, c.requires, d.ensures.value, digits-most 10 c.args.n)) in record { value = t.0; out_after = t.1 }
