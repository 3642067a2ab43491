use Rattle.std.proofs.Common.{◌≡◌, ℕ, ◌<◌, slice_index_or}
use Rattle.test_hex_lines.specs.Parts.{pattern_in}
use Rattle.test_hex_lines.proofs.parts.patterns.Given as goal

abbrev pub invariant-loop-i : goal.invariant-loop-i
invariant-loop-i g l = (k : ℕ) → k < l.i → slice_index_or l.w-items k (pattern_in l.floats k) ≡ pattern_in l.floats k
