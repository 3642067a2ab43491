use Rattle.std.proofs.Common.{sym, ◌∙◌}
use Rattle.expand_peak.proofs.Laws.{follow-zero, follow-short, follow-found, follow-fallen}
use Rattle.expand_peak.proofs.inner.WindowTrace.follow.Goals as goal

pub returns-then-n-eq0-clause-put : goal.returns-then-n-eq0-clause-put
returns-then-n-eq0-clause-put c = let g = c.args.self in
    follow-fallen g.params g.weights.now g.at.ids.now g.at.times.now g.at.peak g.at.lo g.readings.now g.times.now g.at.first c.args.out.now _ _ _ _ (sym c.in-Smoothed.is ∙ c.way_of.ensures) c.if-n-eq0.true c.search-n.ensures.put
    c.put_fallback-then-n-eq0.ensures

pub returns-in-AllZero-clause-put : goal.returns-in-AllZero-clause-put
returns-in-AllZero-clause-put c = let g = c.args.self in
    follow-zero g.params g.weights.now g.at.ids.now g.at.times.now g.at.peak g.at.lo g.readings.now g.times.now g.at.first c.args.out.now (sym c.in-AllZero.is ∙ c.way_of.ensures)

pub returns-in-TooShort-clause-put : goal.returns-in-TooShort-clause-put
returns-in-TooShort-clause-put c = let g = c.args.self in
    follow-short g.params g.weights.now g.at.ids.now g.at.times.now g.at.peak g.at.lo g.readings.now g.times.now g.at.first c.args.out.now _ _ (sym c.in-TooShort.is ∙ c.way_of.ensures) c.put_fallback.ensures

pub returns-else-n-eq0-clause-put : goal.returns-else-n-eq0-clause-put
returns-else-n-eq0-clause-put c = let g = c.args.self in
    follow-found g.params g.weights.now g.at.ids.now g.at.times.now g.at.peak g.at.lo g.readings.now g.times.now g.at.first c.args.out.now _ _ (sym c.in-Smoothed.is ∙ c.way_of.ensures) c.if-n-eq0.false c.search-n.ensures.put
