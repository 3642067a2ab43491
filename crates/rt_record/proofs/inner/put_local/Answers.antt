use mathlib.Core.Path.{refl, ◌∙◌}
use Prim.Native.Nat.{◌*◌}
use Rattle.row_record.proofs.Laws.{put-two}
use Rattle.rt_record.specs.RtRecord.{apex_size, local_size, apex_words, local_own_words, with_local}
use Rattle.rt_record.proofs.inner.put_local.Goals as goal

pub returns : goal.returns
unfolding with_local
returns c = let p = c.args.p in
    put-two c.args.out.now (apex_words p.apex) (local_own_words p) c.copy_from_slice.new.self c.copy_from_slice-2.new.self (c.args.k * local_size) apex_size 3 c.requires refl
    (c.copy_from_slice.ensures.after ∙ c.apex_words.ensures) (c.copy_from_slice-2.ensures.after ∙ c.local_own_words.ensures)
