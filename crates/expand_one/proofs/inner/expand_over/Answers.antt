use Rattle.std.proofs.Common.{refl, ◌-◌, ◌+◌}
use Rattle.expand_one.specs.Runs.{run_in}
use Rattle.expand_one.proofs.Laws.{trace-front, followable, put-over}
use Rattle.expand_one.proofs.inner.expand_over.Goals as goal

pub follow-requires : goal.follow-requires
follow-requires c = let g = c.args in
    let run = run_in g.run.now in
    let e = g.run.now.params in
    followable run e g.weights.now g.p g.frames.lo g.frames.hi _ _ g.run.now.followed c.requires.0 c.requires.1 (rw (← c.ix.view_is) c.all_fit.ensures) c.all_fit-2.ensures c.requires.2 c.requires.3
    (trace-front run e g.p g.frames.lo g.frames.hi (g.frames.hi + 1 - g.frames.lo) g.scratch.now.raw.now _ refl (rw c.of.ensures at c.put_trace.ensures)) refl

pub returns-clause-put : goal.returns-clause-put
returns-clause-put c = let g = c.args in
    let run = run_in g.run.now in
    let e = g.run.now.params in
    put-over run e g.weights.now g.p g.frames.lo g.frames.hi g.first _ _
    (trace-front run e g.p g.frames.lo g.frames.hi (g.frames.hi + 1 - g.frames.lo) g.scratch.now.raw.now _ refl (rw c.of.ensures at c.put_trace.ensures)) refl c.follow.ensures.put
