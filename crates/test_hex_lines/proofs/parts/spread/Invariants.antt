use Rattle.std.proofs.Common.{◌≡◌, ℕ, ◌<◌, slice_index_or}
use Rattle.test_hex_lines.specs.Parts.{float_in}
use Rattle.test_hex_lines.proofs.parts.spread.Given as goal

abbrev pub invariant-loop-i : goal.invariant-loop-i
invariant-loop-i g l = (k : ℕ) → k < l.i → slice_index_or l.x-items k (float_in l.words k) ≡ float_in l.words k
