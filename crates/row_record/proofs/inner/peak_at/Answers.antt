use mathlib.Core.Path.{ap, ◌∙◌}
use mathlib.Core.List.{List, []}
use Prim.Native.Nat.{ℕ, ◌/◌}
use native.Mathlib.Omega.{arith}
use lib.ListN.{length, get_or}
use Rattle.row_record.specs.Record.{size, peak_from}
use Rattle.row_record.proofs.Laws.{chunk-is, own-chunk}
use Rattle.row_record.proofs.inner.peak_at.Goals as goal

pub returns : goal.returns
returns c =
    let l = c.args.list.now in
    let k = c.args.k in
    c.peak_from.ensures
    ∙ ap (λ (w : List ℕ). peak_from w 0) (ap (λ (ws : List (List ℕ)). get_or ws k []) c.as_chunks.ensures.front ∙ chunk-is (length l / size) k l (omega (arith, c.requires)))
    ∙ own-chunk l k
