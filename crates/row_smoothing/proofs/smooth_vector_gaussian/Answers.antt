use mathlib.Core.Path.{sym}
use native.Mathlib.Omega.{arith}
use lib.ListN.{length}
use Rattle.row_smoothing.proofs.Laws.{none-applies}
use Rattle.row_smoothing.proofs.smooth_vector_gaussian.Goals as goal

pub smooth-requires : goal.smooth-requires
smooth-requires c = none-applies c.args.v.now c.args.weights.now (length c.args.scratch.now) (sym c.in_ok-check.ensures)

pub copy-requires : goal.copy-requires
copy-requires c = let n = none-applies c.args.v.now c.args.weights.now (length c.args.scratch.now) (sym c.in_ok-check.ensures) in
    omega (arith, c.smooth.auto.dst)
