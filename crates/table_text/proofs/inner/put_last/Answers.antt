use Rattle.table_text.specs.Print.{hex8}
use Rattle.table_text.proofs.Buffers.{Put, put-next-byte}
use mathlib.Core.Path.{◌∙◌}
use mathlib.Core.List.{[], ◌∷◌, ◌++◌}
use Prim.Native.Nat.{◌<◌, ◌+◌}
use native.Mathlib.Omega.{arith}
use lib.ListN.{length, set}
use Rattle.table_text.proofs.inner.put_last.Goals as goal

pub returns : goal.returns
returns c = let d = c.put_word-end in
    let l = c.args.out.now in
    let a = c.args.at in
    let w = hex8 c.word_of.result in
    let e : d.result + 1 < length l = omega (arith, c.requires, d.ensures.value) in
    let q : Put l a w d.new.out d.result = (d.ensures.value, d.ensures.out_after) in
    let t = put-next-byte l (set d.new.out d.result 13) (w ++ (13 ∷ [])) a (d.result + 1) 10 (put-next-byte l d.new.out w a d.result 13 q (omega arith)) e in record { value = omega (arith, d.ensures.value); out_after = t.1 ∙ rw c.word_of.ensures }
