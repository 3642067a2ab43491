use mathlib.Core.Path.{◌≡◌}
use mathlib.Core.List.{[]}
use Prim.Native.Nat.{◌≤◌}
use lib.ListN.{length}
use Rattle.frames_index.specs.FrameIndex.{index_of}
use Rattle.frames_sums.specs.Sums.{add_points}
use Rattle.frames_sums.proofs.inner.add_each.Given as goal

abbrev pub invariant-loop-k : goal.invariant-loop-k
invariant-loop-k l = (l.k ≤ length l.scans) × (l.sum ≡ add_points (index_of [] [] [] l.scans l.readings) l.w l.k 0 l.so)
