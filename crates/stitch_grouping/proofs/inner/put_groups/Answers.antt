use mathlib.Core.Path.{◌≡◌, refl, subst}
use mathlib.Core.List.{List}
use lib.ListN.{length, length-drop, take, drop}
use lib.Seq.{length-take-le}
use Rattle.row_record.specs.Record.{size}
use Rattle.row_record.specs.declared.ImPeak1D.{ImPeak1D}
use Rattle.stitch_merging.specs.Walk.{Holds}
use Prim.Native.Nat.{◌-◌, ◌*◌, ◌/◌, ◌≤◌}
use native.Mathlib.Omega.{arith}
use Rattle.stitch_grouping.specs.Grouping.{peaks_at}
use Rattle.stitch_grouping.specs.Walk.{part, Gathered}
use Rattle.stitch_grouping.proofs.Laws.{part-peaks, walk_start, walk-group, walk_end, columned-part}
use Rattle.stitch_grouping.proofs.inner.put_groups.Goals as goal

pub loop-i-init : goal.loop-i-init
loop-i-init c = (λ ps g. walk_start c.args.rule c.args.params ps c.args.order.now c.args.merged.now c.args.column.now, omega arith, omega arith)

pub loop-i-preserved : goal.loop-i-preserved
unfolding part
loop-i-preserved c = let inv = c.loop-i.invariant in
    let cut = c.group_end-end in
    let numbers = c.put_number in
    let merge = c.gather_part in
    let put = c.put_merged in
    let order = c.args.order.now in
    let i = c.loop-i.i in
    let sorted = c.args.sorted.now in
    let end = cut.result in
    let long : end * size ≤ length sorted = omega (arith, cut.ensures.1, c.requires.0) in
    let records = take (end * size - i * size) (drop (i * size) sorted) in
    let many : length records ≡ end * size - i * size = length-take-le (end * size - i * size) (drop (i * size) sorted) (omega (arith, long, length-drop (i * size) sorted)) in
    let count : length records / size ≡ end - i = omega (arith, many, cut.ensures.0) in
    let members : (ps : List ImPeak1D) → Gathered ps sorted order → Holds merge.result (peaks_at ps (part order i end)) = λ ps g.
    subst (λ qs. Holds merge.result qs) (part-peaks ps sorted order i end (omega (arith, cut.ensures.0)) cut.ensures.1 long g (length records / size) count) merge.ensures in (
      λ ps g.
          rw numbers.ensures
          (walk-group c.args.rule c.args.params ps order c.args.merged.now c.args.column.now i c.loop-i.number c.loop-i.merged c.loop-i.column (inv.0 ps g) cut.result
          (cut.ensures.2 ps order refl g)
          put.new.merged (put.ensures (peaks_at ps (part order i cut.result)) (members ps g))),
      omega (arith, inv, cut.ensures),
      omega (arith, cut.ensures),
    )

pub returns : goal.returns
returns c = λ ps g. walk_end c.args.rule c.args.params ps c.args.order.now c.args.merged.now c.args.column.now c.loop-i.i c.loop-i.number c.loop-i.merged c.loop-i.column (c.loop-i.invariant.0 ps g) (omega arith)

pub put_number-requires : goal.put_number-requires
put_number-requires c = let i = c.loop-i.i in
    let order = c.args.order.now in
    rw (← c.loop-i.auto.column) at (columned-part c.args.column.now order i (c.group_end-end.result - i) c.requires.1)
