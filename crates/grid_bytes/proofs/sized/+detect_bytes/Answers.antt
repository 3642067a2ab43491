use mathlib.Core.Path.{◌∙◌}
use Prim.Native.Nat.{◌-◌, ◌*◌}
use native.Mathlib.Omega.{arith}
use lib.ListN.{length, length-take, length-drop}
use Rattle.grid_bytes.proofs.Laws.{front-fit, front-room, front-ids, back-fit, halves-done, count_fits}
use borrow.Rule.Slice.PartMut.{same_len_mid}
use Rattle.grid_bytes.proofs.sized.+detect_bytes.Goals as goal

pub overflow_sub-to : goal.overflow_sub-to
overflow_sub-to t c = c.requires.order

pub overflow_sub-mid : goal.overflow_sub-mid
overflow_sub-mid t c = c.requires.order

pub overflow_add-mid : goal.overflow_add-mid
overflow_add-mid t c = omega (arith, c.requires.order, c.well_formed)

pub detect_bytes-n-requires : goal.detect_bytes-n-requires
detect_bytes-n-requires t c = let many = c.if-to-from-gt-MANY_ROWS.true in (omega (arith, c.decreases, many), front-fit _ _ _ _ c.requires many)

pub overflow_mul-at : goal.overflow_mul-at
overflow_mul-at t c = omega (arith, front-room _ _ _ _ c.requires c.if-to-from-gt-MANY_ROWS.true _ _ _ c.detect_bytes-n.ensures, c.well_formed)

pub overflow_cast-rest : goal.overflow_cast-rest
overflow_cast-rest t c =
    let i = front-ids _ _ _ _ c.requires c.if-to-from-gt-MANY_ROWS.true _ _ _ c.detect_bytes-n.ensures (omega (arith, c.well_formed)) in omega (arith, i.0, i.1)

pub overflow_add-rest : goal.overflow_add-rest
overflow_add-rest t c =
    let i = front-ids _ _ _ _ c.requires c.if-to-from-gt-MANY_ROWS.true _ _ _ c.detect_bytes-n.ensures (omega (arith, c.well_formed)) in omega (arith, i.0, i.1)

pub slice_bounds-detect_bytes-count : goal.slice_bounds-detect_bytes-count
slice_bounds-detect_bytes-count t c =
    let d = c.detect_bytes-n in omega (arith, front-room _ _ _ _ c.requires c.if-to-from-gt-MANY_ROWS.true _ _ _ d.ensures, d.auto.out)

pub slice_bounds-detect_bytes-start : goal.slice_bounds-detect_bytes-start
slice_bounds-detect_bytes-start t c =
    let d = c.detect_bytes-n in omega (arith, front-room _ _ _ _ c.requires c.if-to-from-gt-MANY_ROWS.true _ _ _ d.ensures, d.auto.out)

pub detect_bytes-m-requires : goal.detect_bytes-m-requires
detect_bytes-m-requires t c =
    let many = c.if-to-from-gt-MANY_ROWS.true in
    let d = c.detect_bytes-n in
    (omega (arith, c.decreases, many), back-fit _ _ _ _ c.requires many _ _ _ d.ensures _ (rw (length-take, length-drop) (omega (arith, d.auto.out))))

pub overflow_add-result : goal.overflow_add-result
overflow_add-result t c =
    let j = halves-done _ _ _ _ c.requires c.if-to-from-gt-MANY_ROWS.true _ _ _ c.detect_bytes-n.ensures _ _ c.detect_bytes-m.ensures in
    omega (arith, count_fits _ _ _ _ _ _ _ c.requires j)

pub shape_of-out-then-to-from-gt-MANY_ROWS : goal.shape_of-out-then-to-from-gt-MANY_ROWS
shape_of-out-then-to-from-gt-MANY_ROWS t c = let d = c.detect_bytes-n in
    let e = c.detect_bytes-m in
    same_len_mid (d.result * 108) (length d.new.out - d.result * 108) d.new.out e.new.out e.auto.out ∙ d.auto.out

pub returns-then-to-from-gt-MANY_ROWS : goal.returns-then-to-from-gt-MANY_ROWS
returns-then-to-from-gt-MANY_ROWS t c = halves-done _ _ _ _ c.requires c.if-to-from-gt-MANY_ROWS.true _ _ _ c.detect_bytes-n.ensures _ _ c.detect_bytes-m.ensures
