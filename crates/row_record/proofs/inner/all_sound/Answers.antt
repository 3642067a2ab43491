use mathlib.Core.Path.{ap, ◌∙◌}
use mathlib.Core.List.{List}
use Prim.Native.Nat.{ℕ, ◌/◌}
use native.Mathlib.Nat.{add-zero}
use lib.ListN.{length}
use Rattle.std.specs.List.{list_all}
use Rattle.std.proofs.Common.{rules}
use Rattle.std.proofs.lemmas.Iterator.{YieldsList-from_slice}
use Rattle.std.proofs.lemmas.Iterator.Search.{all_from_yields_List}
use Rattle.row_record.specs.Record.{size, sound, peak_from, all_sound}
use Rattle.row_record.proofs.Laws.{all-chunks}
use Rattle.row_record.proofs.inner.all_sound.Goals as goal

pub returns : goal.returns
unfolding all_sound
returns c =
    let l = c.args.list.now in
    let test : List ℕ → _ = λ w. sound (peak_from w 0) in
    all_from_yields_List test _ _ _ c.all.ensures.ran (YieldsList-from_slice _ c.iter.ensures.rest) (λ x b q k. search rules)
    ∙ ap (list_all test) c.as_chunks.ensures.front
    ∙ rw add-zero at (all-chunks l (length l / size) 0)
