use borrow.Author.Tests.{lt-ltb, le-ltb, eq-eqb, ne_eqb}
use Rattle.test_probe.specs.Probe.{candidate_at}
use Rattle.test_probe.proofs.probe_is_candidate.Goals as goal

pub returns-then-i-eq0 : goal.returns-then-i-eq0
unfolding candidate_at
returns-then-i-eq0 c = rw (lt-ltb _ _ c.if-i-y.true, eq-eqb _ _ c.if-i-eq0.true)

pub returns-then-y-i-lt2 : goal.returns-then-y-i-lt2
unfolding candidate_at
returns-then-y-i-lt2 c = rw (lt-ltb _ _ c.if-i-y.true, ne_eqb _ _ c.if-i-eq0.false, lt-ltb _ _ c.if-y-i-lt2.true)

pub returns-then-i-y : goal.returns-then-i-y
unfolding candidate_at
returns-then-i-y c = rw (lt-ltb _ _ c.if-i-y.true, ne_eqb _ _ c.if-i-eq0.false, le-ltb _ _ c.if-y-i-lt2.false) c.is_candidate.ensures

pub returns : goal.returns
unfolding candidate_at
returns c = rw (le-ltb _ _ c.if-i-y.false)
