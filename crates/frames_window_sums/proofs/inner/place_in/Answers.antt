use Rattle.std.proofs.Common.{refl}
use Rattle.frames_sums.proofs.Laws.{frame-bins}
use Rattle.frames_window_sums.proofs.inner.place_in.Goals as goal

pub first_near-requires : goal.first_near-requires
first_near-requires c = frame-bins _ c.ix.invariant c.args.f (rw (← c.ix.view_is) at c.requires) _ _ refl refl
