use Rattle.std.proofs.Common.{◌∙◌, ap, arith, [], List, ℕ}
use lib.ListN.{get_or}
use Rattle.grid_word_bytes.specs.Bytes.{word_at}
use Rattle.grid_word_bytes.proofs.Laws.{chunk-at}
use Rattle.grid_word_bytes.proofs.inner.word_at.Goals as goal

pub returns : goal.returns
returns c = c.word_of.ensures ∙ ap (λ (ws : List (List ℕ)). word_at (get_or ws c.args.k []) 0) c.as_chunks.ensures.front
    ∙ chunk-at c.args.b.now c.args.k (omega arith)
