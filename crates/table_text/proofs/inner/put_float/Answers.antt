use Rattle.table_text.specs.Print.{hex8}
use Rattle.table_text.proofs.Buffers.{Put, put-next-byte}
use mathlib.Core.Path.{◌∙◌}
use Prim.Native.Nat.{◌<◌}
use native.Mathlib.Omega.{arith}
use lib.ListN.{length}
use Rattle.table_text.proofs.inner.put_float.Goals as goal

pub returns : goal.returns
returns c = let d = c.put_word-end in
    let w = hex8 c.word_of.result in
    let e : d.result < length c.args.out.now = omega (arith, c.requires, d.ensures.value) in
    let q : Put c.args.out.now c.args.at w d.new.out d.result = (d.ensures.value, d.ensures.out_after) in
    let t = put-next-byte c.args.out.now d.new.out w c.args.at d.result 44 q e in record { value = t.0; out_after = t.1 ∙ rw c.word_of.ensures }
