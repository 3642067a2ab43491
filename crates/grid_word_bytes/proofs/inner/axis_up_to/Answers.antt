use Rattle.std.proofs.Common.{◌≡◌, ◌<◌, ◌∙◌, sym, ap, arith, [], List, ℕ, length, ◌/◌, ◌-◌}
use lib.ListN.{get_or}
use lib.Dec.{leb}
use Rattle.std.proofs.lemmas.Option.{slice_get_within, get_or_from_slice_get}
use Rattle.grid_word_bytes.specs.Bytes.{word_at, words_of}
use Rattle.grid_word_bytes.proofs.BytesLaws.{words-length, word-get}
use Rattle.grid_word_bytes.proofs.Laws.{chunk-at, rising-up-to}
use Rattle.grid_word_bytes.proofs.inner.axis_up_to.Goals as goal

pub returns-in-Some : goal.returns-in-Some
returns-in-Some c =
    let b = c.args.b.now in
    let n = length b / 4 in
    let ws = c.as_chunks.result.0.now in
    let k = length ws - 1 in
    let same = c.as_chunks.ensures.front_len in
    let got = sym c.in-Some.ensures.value in
    let below : k < length ws = slice_get_within ws k c.in-Some.last.now got in
    let last : get_or ws k [] ≡ c.in-Some.last.now = get_or_from_slice_get ws k c.in-Some.last.now [] got in
    let word : c.word_of.result ≡ get_or (words_of b) (n - 1) 0 =
    c.word_of.ensures ∙ ap (λ (w : List ℕ). word_at w 0) (sym last)
    ∙ ap (λ (l : List (List ℕ)). word_at (get_or l k []) 0) c.as_chunks.ensures.front
    ∙ chunk-at b k (omega arith) ∙ ap (word_at b) (omega arith)
    ∙ sym (word-get b n (n - 1) (omega arith)) in
    ap (λ (w : ℕ). leb w c.args.limit) word
    ∙ sym (rising-up-to c.args.limit (words_of b) n (words-length b n) (omega arith) (sym c.requires ∙ c.if-rises.true))
