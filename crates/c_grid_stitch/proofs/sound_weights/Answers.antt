use Prim.Native.Nat.{◌/◌}
use lib.Seq.{take_at, length-take-le}
use Rattle.limits.specs.Limits.{max_weight, max_reading}
use Rattle.numeric.proofs.Patterns.{all-wider}
use Rattle.row_smoothing.specs.Smoothing.{sound_weights}
use Rattle.grid_word_bytes.specs.Bytes.{floats_of}
use Rattle.grid_word_bytes.proofs.BytesLaws.{floats-length}
use Rattle.grid_word_bytes.proofs.Laws.{decode-from, decoded-floats}
use Rattle.c_grid_stitch.proofs.Laws.{no-weights, long-weights, wrong-weights, some-weights}
use mathlib.Core.Path.{sym, ◌∙◌, ap}
use native.Mathlib.Omega.{arith}
use lib.ListN.{length}
use Rattle.c_grid_stitch.proofs.sound_weights.Goals as goal

pub returns-then-m-eq0 : goal.returns-then-m-eq0
returns-then-m-eq0 c = no-weights (floats_of c.args.weights.now) (floats-length c.args.weights.now ∙ c.if-m-eq0.true)

pub returns-then-m-gt-MAX_WEIGHTS : goal.returns-then-m-gt-MAX_WEIGHTS
returns-then-m-gt-MAX_WEIGHTS c = long-weights (floats_of c.args.weights.now) (let l = floats-length c.args.weights.now in omega (arith, c.if-m-gt-MAX_WEIGHTS.true))

pub returns-then-not-all_words_up_to : goal.returns-then-not-all_words_up_to
returns-then-not-all_words_up_to c = let ws = c.args.weights.now in
    wrong-weights (floats_of ws) (λ k. c.if-m-eq0.false (sym (floats-length ws) ∙ k)) (sym (c.all_words_up_to.ensures.floats (omega arith)) ∙ c.if-not-all_words_up_to.true)

pub decode_floats-requires : goal.decode_floats-requires
decode_floats-requires c = (decode-from c.args.weights.now _ c.if-m-gt-MAX_WEIGHTS.false, all-wider max_weight max_reading (floats_of c.args.weights.now) (omega arith) (sym (c.all_words_up_to.ensures.floats (omega arith)) ∙ c.if-not-all_words_up_to.false))

pub returns : goal.returns
returns c = let ws = c.args.weights.now in
    let m = length ws / 4 in
    let e = c.decode_floats.auto.out ∙ length-take-le m _ c.if-m-gt-MAX_WEIGHTS.false in
    let d = decoded-floats ws _ c.decode_floats.new.out c.if-m-gt-MAX_WEIGHTS.false c.decode_floats.ensures in
    some-weights (floats_of ws) _ (λ k. c.if-m-eq0.false (sym (floats-length ws) ∙ k)) (c.sound_weights.ensures ∙ ap sound_weights (take_at c.decode_floats.new.out _ m e ∙ d))
