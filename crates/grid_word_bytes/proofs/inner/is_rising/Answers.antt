use mathlib.Core.Path.{◌≡◌, sym, ◌∙◌, ap}
use mathlib.Core.Bool.{◌&&◌}
use mathlib.Core.List.{map}
use Prim.Native.Nat.{◌/◌}
use lib.Dec.{ltb}
use lib.ListN.{length}
use Rattle.std.proofs.Common.{rules, tests}
use Rattle.std.proofs.lemmas.Iterator.{YieldsList-from_slice, YieldsList-from_zip}
use Rattle.std.proofs.lemmas.Iterator.Consumers.{fold_from_yields_List}
use Rattle.row_params.specs.Params.{rising}
use Rattle.grid_word_bytes.specs.Bytes.{word_at, words_of}
use Rattle.grid_word_bytes.proofs.Laws.{chunk-words, rises-none, rising-fold}
use Rattle.grid_word_bytes.proofs.inner.is_rising.Goals as goal

pub returns-in_default : goal.returns-in_default
returns-in_default c =
    let b = c.args.b.now in
    let ws = c.as_chunks.result.0.now in
    let e : map (λ w. word_at w 0) ws ≡ words_of b = ap (map (λ w. word_at w 0)) c.as_chunks.ensures.front ∙ chunk-words (length b / 4) b in
    sym (ap rising (sym e) ∙ rises-none (λ w. word_at w 0) ws c.in_default.ensures.cases)

pub returns : goal.returns
returns c =
    let b = c.args.b.now in
    let ws = c.as_chunks.result.0.now in
    let rest = c.in-Some.rest.now in
    let e : map (λ w. word_at w 0) ws ≡ words_of b = ap (map (λ w. word_at w 0)) c.as_chunks.ensures.front ∙ chunk-words (length b / 4) b in
    fold_from_yields_List _ (λ all p. all && ltb (word_at p.0 0) (word_at p.1 0)) _ _ c.fold.ensures.ran
    (YieldsList-from_zip (YieldsList-from_slice ws cc) (YieldsList-from_slice rest cc)) (λ all p b q k. search (rules, tests))
    ∙ rising-fold (λ w. word_at w 0) ws rest _ c.in-Some.ensures.cases.0 ∙ ap rising e
