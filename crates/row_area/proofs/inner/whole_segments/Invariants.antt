use Rattle.row_area.specs.Area.{whole}
use mathlib.Core.Path.{◌≡◌}
use Prim.Native.Nat.{◌-◌}
use Rattle.row_area.proofs.inner.whole_segments.Given as goal

abbrev pub invariant-loop-s : goal.invariant-loop-s
invariant-loop-s l = whole l.y (l.to - l.from) l.from l.start ≡ whole l.y (l.to - l.s) l.s l.area

abbrev pub decreases-loop-s : goal.decreases-loop-s
decreases-loop-s l = l.to - l.s
