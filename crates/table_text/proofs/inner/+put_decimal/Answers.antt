use Rattle.table_text.specs.Print.{decimal, digit}
use Rattle.table_text.proofs.Facts.{decimal-one, decimal-more, tenth-length}
use Rattle.table_text.proofs.Buffers.{put_one, put-next-byte}
use mathlib.Core.Path.{refl}
use Prim.Native.Nat.{◌/◌, ◌%◌}
use native.Mathlib.Omega.{arith}
use Rattle.table_text.proofs.inner.+put_decimal.Goals as goal

pub returns-then-n-lt10 : goal.returns-then-n-lt10
returns-then-n-lt10 t c =
    let l = c.args.out.now in
    let q = put_one l c.args.at (digit c.args.n) (omega (arith, c.requires)) in
    rw (decimal-one c.args.n c.if-n-lt10.true) (record { value = refl; out_after = q })

pub bounds-out-end : goal.bounds-out-end
bounds-out-end t c =
    let d = c.put_decimal-end in
    omega (arith, c.requires, d.ensures.value, d.auto.out, tenth-length c.args.n c.ranges.n.fits)

pub overflow_add-result-2 : goal.overflow_add-result-2
overflow_add-result-2 t c =
    let d = c.put_decimal-end in
    omega (arith, c.requires, d.ensures.value, c.well_formed.0.0, tenth-length c.args.n c.ranges.n.fits)

pub returns : goal.returns
returns t c =
    let n = c.args.n in
    let d = c.put_decimal-end in
    let q = put-next-byte c.args.out.now d.new.out (decimal (n / 10)) c.args.at d.result (digit (n % 10)) (d.ensures.value, d.ensures.out_after)
    (omega (arith, c.requires, d.ensures.value, tenth-length n c.ranges.n.fits)) in
    rw (decimal-more n c.ranges.n.fits c.if-n-lt10.false) (record { value = q.0; out_after = q.1 })
