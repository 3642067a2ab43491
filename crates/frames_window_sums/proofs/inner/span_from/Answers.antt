use Rattle.std.proofs.Common.{refl}
use Rattle.frames_sums.proofs.Laws.{frame-rest, frame-offset, frame-span}
use Rattle.frames_window_sums.proofs.Laws.{no-points, same_place}
use Rattle.frames_window_sums.proofs.inner.span_from.Goals as goal

pub first_above-j-requires : goal.first_above-j-requires
first_above-j-requires c =
    let r = rw (← c.ix.view_is) at c.requires in
    frame-rest _ c.ix.invariant c.args.f r.0 _ _ refl refl _ _ r.1

pub returns-then-i-j : goal.returns-then-i-j
returns-then-i-j c =
    let r = rw (← c.ix.view_is) at c.requires in
    rw (← c.ix.view_is)
    (no-points _ c.args.w c.args.f _
    (frame-span _ c.ix.invariant c.args.f r.0 _ _ refl refl _ _ _ _ _ r.1 c.first_above-j.ensures refl (same_place _ _ _ c.if-i-j.true)))

pub bounds-ix-inside-i : goal.bounds-ix-inside-i
bounds-ix-inside-i c =
    let r = rw (← c.ix.view_is) at c.requires in
    frame-offset _ c.ix.invariant c.args.f r.0 _ _ refl refl _ r.1.before

pub bounds-ix-inside-j : goal.bounds-ix-inside-j
bounds-ix-inside-j c =
    let r = rw (← c.ix.view_is) at c.requires in
    frame-offset _ c.ix.invariant c.args.f r.0 _ _ refl refl _ c.first_above-j.ensures.before

pub returns : goal.returns
returns c =
    let r = rw (← c.ix.view_is) at c.requires in
    rw (← c.ix.view_is) (frame-span _ c.ix.invariant c.args.f r.0 _ _ refl refl _ _ _ _ _ r.1 c.first_above-j.ensures refl refl)
