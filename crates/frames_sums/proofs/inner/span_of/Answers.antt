use Rattle.std.proofs.Common.{refl}
use Rattle.frames_sums.proofs.Laws.{frame-bins, frame-rest, frame-offset, frame-span}
use Rattle.frames_sums.proofs.inner.span_of.Goals as goal

pub first_at-i-requires : goal.first_at-i-requires
first_at-i-requires c = frame-bins _ c.ix.invariant c.args.f (rw (← c.ix.view_is) at c.requires) _ _ refl refl

pub first_above-j-requires : goal.first_above-j-requires
first_above-j-requires c = frame-rest _ c.ix.invariant c.args.f (rw (← c.ix.view_is) at c.requires) _ _ refl refl _ _ c.first_at-i.ensures

pub returns : goal.returns
returns c =
    rw (← c.ix.view_is)
    (frame-span _ c.ix.invariant c.args.f (rw (← c.ix.view_is) at c.requires) _ _ refl refl
    _ _ _ _ _ c.first_at-i.ensures c.first_above-j.ensures refl refl)

pub bounds-ix-inside-i : goal.bounds-ix-inside-i
bounds-ix-inside-i c = frame-offset _ c.ix.invariant c.args.f (rw (← c.ix.view_is) at c.requires) _ _ refl refl _ c.first_at-i.ensures.before

pub bounds-ix-inside-j : goal.bounds-ix-inside-j
bounds-ix-inside-j c = frame-offset _ c.ix.invariant c.args.f (rw (← c.ix.view_is) at c.requires) _ _ refl refl _ c.first_above-j.ensures.before
