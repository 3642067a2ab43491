use Rattle.std.proofs.Common.{◌+◌, ap}
use Rattle.frames_sums.proofs.Laws.{first_by}
use Rattle.frames_sums.proofs.inner.first_above.Goals as goal

pub returns : goal.returns
returns c = let r = c.requires in
    first_by c.args.bins.now c.args.from c.args.to c.args.x c.place_above.result _ r.2 r.0 r.1 c.place_above.ensures (ap (λ n. c.args.from + n) c.unwrap_or.ensures)
