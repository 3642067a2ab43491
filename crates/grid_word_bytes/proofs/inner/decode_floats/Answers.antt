use Prim.Native.Nat.{◌/◌}
use lib.Seq.{get_or-drop}
use lib.Ieee.{of_bits}
use Rattle.limits.specs.Limits.{max_reading}
use Rattle.grid_word_bytes.specs.Bytes.{floats_of}
use Rattle.grid_word_bytes.proofs.BytesLaws.{float-get, floats-length}
use Rattle.grid_word_bytes.proofs.Laws.{fill-turn, in-range-no-nan}
use lib.ListN.{length-set, length-drop}
use mathlib.Core.Path.{◌≡◌, sym, ◌∙◌, ap}
use Prim.Native.Nat.{◌-◌, ◌+◌}
use native.Mathlib.Omega.{arith}
use lib.ListN.{length, get_or, drop}
use lib.Ieee.{nan, binary32}
use Rattle.grid_word_bytes.proofs.inner.decode_floats.Goals as goal

pub float_from_bits-value : goal.float_from_bits-value
float_from_bits-value c = let b = c.args.b.now in
    let k = c.args.from + c.loop-i.i in
    let n = floats-length b in
    in-range-no-nan max_reading (floats_of b) k _ (omega arith) c.requires.1 (omega arith) c.word_at.type_inv (float-get b k (omega arith) ∙ ap (of_bits binary32) (sym c.word_at.ensures))

pub loop-i-preserved : goal.loop-i-preserved
loop-i-preserved c = let b = c.args.b.now in
    let from = c.args.from in
    let i = c.loop-i.i in
    let l : length (floats_of b) ≡ length b / 4 = floats-length b in
    let g : length (drop from (floats_of b)) ≡ length b / 4 - from = rw (length-drop, l) in
    let v : of_bits binary32 c.word_at.result ≡ get_or (drop from (floats_of b)) i nan = ap (of_bits binary32) c.word_at.ensures ∙ sym (get_or-drop from (floats_of b) i nan ∙ float-get b (from + i) (omega arith)) in
    (rw length-set c.loop-i.invariant.0, fill-turn (drop from (floats_of b)) c.args.out.now c.loop-i.out i nan _ (omega arith) (omega arith) c.loop-i.invariant.1 v)
