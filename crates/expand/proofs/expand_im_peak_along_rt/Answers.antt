use Rattle.std.proofs.Common.{refl}
use Rattle.expand_one.specs.Runs.{run_lent}
use Rattle.expand.specs.Lists.{lent_in}
use Rattle.expand.proofs.AloneLaws.{one-answered-by}
use Rattle.expand.proofs.expand_im_peak_along_rt.Goals as goal

pub returns-clause-answer : goal.returns-clause-answer
returns-clause-answer c = let g = c.args in
    let r = c.expand_many_im_peaks_along_rt in
    one-answered-by (run_lent g.run.now) g.e g.peak.now g.weights.now g.first
    (lent_in g.lent.now) (lent_in r.new.lent) c.min-k.result _ r.new.counts r.result c.min-k.ensures refl r.ensures.answer
