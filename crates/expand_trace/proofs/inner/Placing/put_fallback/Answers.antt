use Rattle.std.proofs.Common.{sym, ◌∙◌, ◌<◌, length, arith}
use Rattle.expand_trace.proofs.Laws.{peak-inside, put_one, put-none}
use Rattle.expand_trace.proofs.inner.Placing.put_fallback.Goals as goal

pub put_apex-requires : goal.put_apex-requires
put_apex-requires c = let g = c.args in
    let e = sym c.in-Some.is ∙ c.fallback_rt_peak_from_trace-found.ensures in
    let some : 0 < length g.x.now = c.requires.0 in
    let fits = c.requires.1 in
    let few = c.requires.2 in
    (some, fits, few, peak-inside g.x.now g.self.ids.now g.self.times.now g.self.peak g.frac g.self.first _ some (omega (arith, fits, few)) e, c.requires.4)

pub returns-in-Some : goal.returns-in-Some
returns-in-Some c = let g = c.args in
    put_one g.x.now g.self.lo g.self.ids.now g.self.times.now g.self.peak g.frac g.self.first g.out.now _ _ (sym c.in-Some.is ∙ c.fallback_rt_peak_from_trace-found.ensures) c.put_apex.ensures

pub returns-in-None : goal.returns-in-None
returns-in-None c = let g = c.args in
    put-none g.x.now g.self.lo g.self.ids.now g.self.times.now g.self.peak g.frac g.self.first g.out.now (sym c.in-None.is ∙ c.fallback_rt_peak_from_trace-found.ensures)
