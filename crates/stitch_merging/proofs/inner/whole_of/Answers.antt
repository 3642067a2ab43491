use mathlib.Core.Path.{◌≡◌, sym, subst}
use Prim.Native.Nat.{◌<◌, ◌+◌, ◌/◌}
use native.Mathlib.Omega.{arith}
use lib.Dec.{T}
use lib.Ieee.{binary32, fits, of_bits}
use Rattle.numeric.specs.Arith.{◌⊕◌}
use Rattle.numeric.specs.Numeric.{cast_f}
use Rattle.stitch_merging.specs.Merging.{whole}
use Rattle.stitch_merging.proofs.Halves.{whole-halves}
use Rattle.stitch_merging.proofs.inner.whole_of.Goals as goal

pub overflow_add-result : goal.overflow_add-result
unfolding of_bits
overflow_add-result c =
    let held : T (fits binary32 c.args.mean) = subst T (sym c.well_formed.0.1) tt in
    let halves : (cast_f (c.args.mean ⊕ c.args.mean) < 16777216) × ((cast_f (c.args.mean ⊕ c.args.mean) + 1) / 2 ≡ whole c.args.mean) = whole-halves c.args.mean held c.if-mean.true c.if-mean-2.true in
    record { fits = omega (arith, c.cast_sat.ensures, halves.0) }

pub returns-then-mean-2 : goal.returns-then-mean-2
unfolding of_bits
returns-then-mean-2 c =
    let held : T (fits binary32 c.args.mean) = subst T (sym c.well_formed.0.1) tt in
    let halves : (cast_f (c.args.mean ⊕ c.args.mean) < 16777216) × ((cast_f (c.args.mean ⊕ c.args.mean) + 1) / 2 ≡ whole c.args.mean) = whole-halves c.args.mean held c.if-mean.true c.if-mean-2.true in
    rw c.cast_sat.ensures halves.1
