use native.Mathlib.Omega.{arith}
use Rattle.stitch_matching.proofs.Shares.{enough-same}
use Rattle.stitch_matching.proofs.inner.Interval.has_enough.Goals as goal

pub returns-then-same : goal.returns-then-same
returns-then-same c = let a = c.args in
    rw c.saturating_sub.ensures (enough-same a.least a.share a.self.lo a.self.hi a.other.lo a.other.hi (omega (arith, c.well_formed.0)) (rw c.eq.ensures at c.if-same.true)).1
