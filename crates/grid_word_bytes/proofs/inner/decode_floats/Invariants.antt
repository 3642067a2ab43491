use Rattle.grid_word_bytes.specs.Bytes.{floats_of}
use mathlib.Core.Path.{◌≡◌}
use mathlib.Core.List.{◌++◌}
use lib.ListN.{length, drop, take}
use Rattle.grid_word_bytes.proofs.inner.decode_floats.Given as goal

abbrev pub invariant-loop-i : goal.invariant-loop-i
invariant-loop-i l = (length l.out ≡ length l.initial.out) × (l.out ≡ take l.i (drop l.from (floats_of l.b)) ++ drop l.i l.initial.out)
