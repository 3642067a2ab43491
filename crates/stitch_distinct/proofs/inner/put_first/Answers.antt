use mathlib.Core.Path.{sym, ◌∙◌, ap}
use lib.ListN.{length, take}
use Rattle.stitch_distinct.proofs.inner.put_first.Goals as goal
use Rattle.sort_digits.proofs.UpTo.{take-up}

pub returns-then-rise : goal.returns-then-rise
returns-then-rise c = let m = length c.args.to.now in
    let e = c.rise.ensures in record { distinct = sym (e.distinct c.if-rise.true); order = c.count_up.ensures ∙ sym (take-up c.args.records.count m c.requires.1) ∙ ap (take m) (sym (e.order c.if-rise.true)) }
