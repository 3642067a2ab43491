use Rattle.grid_word_bytes.specs.Bytes.{bytes_of}
use Rattle.grid_word_bytes.proofs.Laws.{word-behind}
use mathlib.Core.Path.{◌≡◌, refl, ◌∙◌}
use native.Mathlib.Omega.{arith}
use lib.ListN.{length}
use lib.Seq.{take_all}
use Rattle.grid_word_bytes.proofs.inner.put_words.Goals as goal

pub loop-i-init : goal.loop-i-init
unfolding bytes_of
loop-i-init c = (refl, refl)

pub loop-i-preserved : goal.loop-i-preserved
loop-i-preserved c = (c.put_word.auto.b ∙ c.loop-i.invariant.0, word-behind c.args.ws.now c.args.out.now c.loop-i.out _ c.loop-i.i c.loop-i-test.true c.loop-i.invariant.1 c.put_word.ensures)

pub returns : goal.returns
returns c = let ws = c.args.ws.now in
    let e : c.loop-i.i ≡ length ws = omega arith in
    c.loop-i.invariant.1 ∙ rw (e, take_all (length ws) ws (omega arith))
