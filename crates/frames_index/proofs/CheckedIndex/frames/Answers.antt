use Rattle.std.proofs.Common.{◌<◌, length, arith}
use Rattle.frames_index.proofs.Laws.{sound-parts, climbs-some}
use Rattle.frames_index.proofs.CheckedIndex.frames.Goals as goal

pub overflow_sub-result : goal.overflow_sub-result
overflow_sub-result c = climbs-some _ _ (sound-parts _ _ _ _ c.self.invariant.sound).0

pub returns-clause-one_less : goal.returns-clause-one_less
returns-clause-one_less c = let some : 0 < length c.self.inside.starts.now = climbs-some _ _ (sound-parts _ _ _ _ c.self.invariant.sound).0 in
    rw (← c.self.view_is) (omega arith)
