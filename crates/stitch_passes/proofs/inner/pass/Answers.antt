use mathlib.Core.Path.{◌≡◌}
use Prim.Native.Nat.{ℕ, ◌≤◌, ◌+◌, ◌*◌}
use native.Mathlib.Nat.{mul-le-mul_left, mul-add}
use native.Mathlib.Omega.{arith}
use lib.ListN.{length, drop}
use Rattle.row_record.specs.Record.{size}
use Rattle.stitch_keys.specs.Keys.{width_of}
use Rattle.stitch_keys.proofs.KeysLaws.{width-most}
use Rattle.stitch_peaks.specs.PeakList.{peaks_of}
use Rattle.stitch_grouping.specs.Grouping.{pass_order}
use Rattle.stitch_passes.proofs.Laws.{later, ordered, rest-ordered, order-size, in_list, in-column, gathered, standing, keys-only, keys-rest, finished}
use Rattle.stitch_passes.proofs.inner.pass.Goals.{After-order_rows}
use Rattle.stitch_passes.proofs.inner.pass.Goals as goal

-- a key has no more words than a record
few : (n w l : ℕ) → w ≤ 8 → n * size ≤ l → n * w ≤ l
few n w l h k = let e : n * w ≤ n * size = mul-le-mul_left n (omega arith) in omega arith

-- nor with four words more
few-led : (n w l : ℕ) → w ≤ 8 → n * size ≤ l → n * w + n * 4 ≤ l
few-led n w l h k = let e : n * (w + 4) ≤ n * size = mul-le-mul_left n (omega arith) in omega (arith, mul-add n w 4)

pub put_keys-requires : goal.put_keys-requires
put_keys-requires c = few (length c.args.order.now) (width_of c.args.rule) (length c.args.keys.now) (width-most c.args.rule) c.requires.2

pub order_rows-requires : goal.order_rows-requires
order_rows-requires c = let put = c.put_keys in
    let w = c.width in
    let n = length c.args.order.now in
    let e : n * w.result + n * 4 ≤ length put.new.table = rw (w.ensures, put.auto.table) (few-led n (width_of c.args.rule) (length c.args.keys.now) (width-most c.args.rule) c.requires.2) in
    let list = c.args.list.now in (
      rw w.ensures c.requires.5,
      e,
      c.requires.4,
      c.requires.1,
      rest-ordered list n c.args.rule c.args.params c.args.words put.new.table (drop (n * width_of c.args.rule) c.args.keys.now) c.args.order.now w.result put.ensures w.ensures c.requires.6,
    )

module _ (c : After-order_rows) where
  sorted-order : c.order_rows.new.order ≡ pass_order c.args.rule (peaks_of c.args.list.now (length c.args.order.now))
  sorted-order = let put = c.put_keys in
      ordered c.args.list.now (length c.args.order.now) c.args.rule c.args.params put.new.table (drop (length c.args.order.now * width_of c.args.rule) c.args.keys.now) c.order_rows.new.order c.width.result put.ensures c.width.ensures c.order_rows.ensures.order

  as_many : length c.order_rows.new.order ≡ length c.args.order.now
  as_many = order-size c.args.list.now (length c.args.order.now) c.args.rule c.args.params c.order_rows.new.order sorted-order c.requires.0

  -- what the table holds behind a record a peak is kept
  behind : drop (length c.args.order.now * size) c.order_rows.new.keys ≡ drop (length c.args.order.now * size) c.put_keys.new.table
  behind = let put = c.put_keys in
      let w = c.width in
      let n = length c.args.order.now in
      later c.order_rows.new.keys put.new.table (n * w.result + n * 4) (n * size) (rw w.ensures (few-led n (width_of c.args.rule) (n * size) (width-most c.args.rule) (omega arith))) c.order_rows.ensures.behind

pub put_groups-requires : goal.put_groups-requires
put_groups-requires c = let e = sorted-order (goal.at.put_groups-requires c).After-order_rows in
    let order = c.order_rows.new.order in
    let column = c.order_rows.new.spare in
    let n = length c.args.order.now in
    let l = as_many (goal.at.put_groups-requires c).After-order_rows in (
      omega (arith, l, c.requires.0),
      in-column c.args.list.now n c.args.rule c.args.params order e c.requires.0 column (omega (arith, c.order_rows.auto.spare, c.requires.1)),
      omega (arith, l, c.requires.3),
      omega (arith, l, c.requires.4),
    )

pub returns-then-stands : goal.returns-then-stands
returns-then-stands c = let put = c.put_keys in
    let put-groups = c.put_groups in
    let e = sorted-order (goal.at.returns-then-stands c).After-order_rows in
    let order = c.order_rows.new.order in
    let column = c.order_rows.new.spare in
    let list = c.args.list.now in
    let n = length c.args.order.now in
    let rule = c.args.rule in
    let params = c.args.params in
    finished list n rule params order e c.requires.0 c.args.out.now c.args.column.now c.args.keys.now column c.order_rows.new.keys put-groups.result put-groups.new.merged put-groups.new.column
    (put-groups.ensures (peaks_of list n) (standing list n rule params order e c.requires.0 (c.stands.ensures c.if-stands.true)))
    (omega (arith, c.order_rows.auto.spare, c.requires.1))
    c.order_rows.ensures.spare
    (keys-only list n rule params order e c.requires.0 c.args.keys.now put.new.table c.order_rows.new.keys put.ensures (behind (goal.at.returns-then-stands c).After-order_rows))

pub gather-requires : goal.gather-requires
gather-requires c = let put = c.put_keys in
    let order = c.order_rows.new.order in
    let n = length c.args.order.now in
    (in_list c.args.list.now n c.args.rule c.args.params order (sorted-order (goal.at.gather-requires c).After-order_rows) c.requires.0, omega (arith, as_many (goal.at.gather-requires c).After-order_rows, c.order_rows.auto.keys, put.auto.table, c.requires.2))

pub put_groups-requires-2 : goal.put_groups-requires-2
put_groups-requires-2 c = let put = c.put_keys in
    let e = sorted-order (goal.at.put_groups-requires-2 c).After-order_rows in
    let order = c.order_rows.new.order in
    let column = c.order_rows.new.spare in
    let n = length c.args.order.now in
    let l = as_many (goal.at.put_groups-requires-2 c).After-order_rows in (
      omega (arith, l, c.gather.auto.sorted, c.order_rows.auto.keys, put.auto.table, c.requires.2),
      in-column c.args.list.now n c.args.rule c.args.params order e c.requires.0 column (omega (arith, c.order_rows.auto.spare, c.requires.1)),
      omega (arith, l, c.requires.3),
      omega (arith, l, c.requires.4),
    )

pub returns : goal.returns
returns c = let put = c.put_keys in
    let gather = c.gather in
    let put-groups = c.put_groups-2 in
    let e = sorted-order (goal.at.returns c).After-order_rows in
    let order = c.order_rows.new.order in
    let column = c.order_rows.new.spare in
    let list = c.args.list.now in
    let n = length c.args.order.now in
    let rule = c.args.rule in
    let params = c.args.params in
    finished list n rule params order e c.requires.0 c.args.out.now c.args.column.now c.args.keys.now column gather.new.sorted put-groups.result put-groups.new.merged put-groups.new.column
    (put-groups.ensures (peaks_of list n) (gathered list n rule params order e c.requires.0 gather.new.sorted (drop (length order * size) c.order_rows.new.keys) gather.ensures))
    (omega (arith, c.order_rows.auto.spare, c.requires.1))
    c.order_rows.ensures.spare
    (keys-rest list n rule params order e c.requires.0 c.args.keys.now put.new.table c.order_rows.new.keys gather.new.sorted put.ensures (behind (goal.at.returns c).After-order_rows) gather.ensures)
