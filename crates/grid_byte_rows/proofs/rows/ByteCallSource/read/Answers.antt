use mathlib.Core.Path.{◌∙◌, ap}
use Prim.Native.Nat.{ℕ, ◌*◌}
use native.Mathlib.Omega.{arith}
use lib.ListN.{take, drop}
use Rattle.grid_word_bytes.specs.Bytes.{floats_of}
use Rattle.grid_word_bytes.proofs.BytesLaws.{floats-length}
use Rattle.grid_byte_rows.proofs.rows.ByteCallSource.read.Goals as goal

pub overflow_mul-r : goal.overflow_mul-r
overflow_mul-r c = let f = floats-length c.args.self.now.used.now in omega (arith, f, c.requires.0.readings, c.well_formed)

pub decode_floats-requires : goal.decode_floats-requires
decode_floats-requires c = let f = floats-length c.args.self.now.used.now in
    (rw c.requires.1 (omega (arith, f, c.requires.0.readings)), c.requires.0.ranged)

pub returns : goal.returns
returns c = c.decode_floats.ensures ∙ ap (λ (k : ℕ). take k (drop (c.args.r * c.args.self.now.terms.cols) (floats_of c.args.self.now.used.now))) c.requires.1
