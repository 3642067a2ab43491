use mathlib.Core.Path.{refl, ◌∙◌}
use Prim.Native.Nat.{◌*◌}
use Rattle.row_record.proofs.Laws.{put-two}
use Rattle.rt_record.specs.RtRecord.{apex_size, rt_size, apex_words, rt_own_words, with_rt_peak}
use Rattle.rt_record.proofs.inner.put_rt_peak.Goals as goal

pub returns : goal.returns
unfolding with_rt_peak
returns c = let p = c.args.p in
    put-two c.args.out.now (apex_words p.apex) (rt_own_words p) c.copy_from_slice.new.self c.copy_from_slice-2.new.self (c.args.k * rt_size) apex_size 12 c.requires refl
    (c.copy_from_slice.ensures.after ∙ c.apex_words.ensures) (c.copy_from_slice-2.ensures.after ∙ c.rt_own_words.ensures)
