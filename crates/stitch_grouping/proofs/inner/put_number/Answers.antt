use mathlib.Core.Path.{refl, ap}
use mathlib.Core.List.{List}
use Prim.Native.Nat.{ℕ}
use native.Mathlib.Omega.{arith}
use native.Mathlib.Numerals.{add-one}
use lib.ListN.{get_or, set, take}
use lib.Seq.{take-suc}
use Rattle.sort_digits.proofs.SortedLaws.{at-index}
use Rattle.stitch_grouping.specs.Walk.{numbered}
use Rattle.stitch_grouping.proofs.Laws.{numbered-one}
use Rattle.stitch_grouping.proofs.inner.put_number.Goals as goal

pub loop-p-init : goal.loop-p-init
unfolding numbered
loop-p-init c = refl

pub bounds-column-p : goal.bounds-column-p
bounds-column-p c = let places = c.args.places.now in
    let inside = c.requires (get_or places c.loop-p.p-index 0) (at-index places c.loop-p.p-index c.loop-p-test.true) in
    omega (arith, inside, c.loop-p.auto.column)

pub loop-p-preserved : goal.loop-p-preserved
loop-p-preserved c = let i = c.loop-p.p-index in
    let places = c.args.places.now in
    rw (add-one, take-suc places i 0 c.loop-p-test.true, numbered-one c.args.number (take i places) (get_or places i 0) c.args.column.now)
    (ap (λ (so : List ℕ). set so (get_or places i 0) c.args.number) c.loop-p.invariant)
