use Rattle.std.proofs.Common.{sym, ◌∙◌}
use Rattle.rt_fallback.specs.Fallback.{bounds_of}
use Rattle.rt_fallback.proofs.inner.bounds_of.Goals as goal

pub returns-then-is_empty : goal.returns-then-is_empty
unfolding bounds_of
returns-then-is_empty c = rw (sym c.is_empty.ensures ∙ c.if-is_empty.true, c.max-rt_hi.ensures, c.min-rt_lo.ensures)

pub returns : goal.returns
unfolding bounds_of
returns c = rw (sym c.is_empty.ensures ∙ c.if-is_empty.false) (simp (c.max.ensures, c.min.ensures, c.number_at-b.ensures, c.number_at-a.ensures, c.max-rt_hi.ensures, c.min-rt_lo.ensures))
