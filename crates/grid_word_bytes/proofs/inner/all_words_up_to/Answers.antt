use mathlib.Core.Path.{◌≡◌, ◌∙◌, ap}
use mathlib.Core.Bool.{true, ◌&&◌}
use Prim.Native.Nat.{◌/◌}
use lib.Dec.{leb}
use lib.ListN.{length}
use Rattle.std.proofs.Common.{rules, tests}
use Rattle.std.proofs.lemmas.Iterator.{YieldsList-from_slice}
use Rattle.std.proofs.lemmas.Iterator.Consumers.{fold_from_yields_List}
use Rattle.row_params.specs.Params.{all_up_to}
use Rattle.grid_word_bytes.specs.Bytes.{word_at, words_of, floats_of}
use Rattle.grid_word_bytes.proofs.Laws.{chunk-words, up-to-fold, range-words}
use Rattle.grid_word_bytes.proofs.inner.all_words_up_to.Goals as goal

pub returns : goal.returns
unfolding floats_of
returns c =
    let b = c.args.b.now in
    let n = length b / 4 in
    let words : c.fold.result ≡ all_up_to c.args.limit (words_of b) =
    fold_from_yields_List _ (λ all w. all && leb (word_at w 0) c.args.limit) _ _ c.fold.ensures.ran (YieldsList-from_slice _ c.iter.ensures.rest) (λ all w b q k. search (rules, tests))
    ∙ rw c.as_chunks.ensures.front (up-to-fold c.args.limit (λ w. word_at w 0) _ true ∙ ap (all_up_to c.args.limit) (chunk-words n b)) in
    record { words = words; floats = λ h. words ∙ range-words c.args.limit b n (λ k. let f = c.type_inv.b k in search rules) h }
