use borrow.Author.Tests.{ltb-false}
use mathlib.Core.Path.{sym}
use native.Mathlib.Omega.{arith}
use lib.ListN.{length}
use Rattle.limits.specs.Limits.{max_samples}
use Rattle.row_area.proofs.AreaLaws.{none-for}
use Rattle.row_area.proofs.trapezoid_area_fractional.Goals as goal

pub trapezoid_area_fractional-requires : goal.trapezoid_area_fractional-requires
trapezoid_area_fractional-requires c = let a = c.args in
    omega (arith, ltb-false max_samples (length a.y.now) (none-for a.y.now a.x0 a.x1 2 (sym c.in_ok-check.ensures)))
