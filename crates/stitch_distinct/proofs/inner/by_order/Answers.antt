use mathlib.Core.Path.{refl, sym, ◌∙◌, ap}
use Prim.Native.Nat.{◌*◌}
use native.Mathlib.Omega.{arith}
use lib.ListN.{length, drop, take}
use Rattle.stitch_keys.specs.Keys.{width_of}
use Rattle.stitch_distinct.proofs.Laws.{Found, found}
use Rattle.stitch_distinct.proofs.inner.by_order.Goals.{After-order_rows}
use Rattle.stitch_distinct.proofs.inner.by_order.Goals as goal

pub put_keys-requires : goal.put_keys-requires
unfolding width_of
put_keys-requires c = omega arith

-- what the sorted places are
left : (w : After-order_rows) → Found w.args.records.words.now w.args.records.count w.put_keys.new.table w.order_rows.new.order
unfolding width_of
left w =
    let n = w.args.records.count in
    found w.args.records.words.now n w.put_keys.new.table (drop (n * 1) w.args.ids.now) w.order_rows.new.order w.put_keys.ensures (rw w.requires.2 at w.order_rows.ensures.sorted)

pub neighbours_differ-requires : goal.neighbours_differ-requires
neighbours_differ-requires c =
    let f = left (goal.at.neighbours_differ-requires c).After-order_rows in
    λ p m. omega (arith, f.below p m, c.put_keys.auto.table, c.requires.3)

pub returns-then-neighbours_differ : goal.returns-then-neighbours_differ
returns-then-neighbours_differ c =
    let f = left (goal.at.returns-then-neighbours_differ c).After-order_rows in
    record { distinct = sym c.if-neighbours_differ.true ∙ c.neighbours_differ.ensures ∙ f.tells; order = c.copy.ensures ∙ ap (take (length c.args.to.now)) f.in_order }

pub returns : goal.returns
returns c = record { distinct = sym c.if-neighbours_differ.false ∙ c.neighbours_differ.ensures ∙ (left (goal.at.returns c).After-order_rows).tells; order = refl }
