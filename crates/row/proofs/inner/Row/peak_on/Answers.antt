use mathlib.Core.Path.{◌∙◌}
use Rattle.numeric.proofs.Laws.{as_number}
use Rattle.row.proofs.Laws.{peak-is, flag-word, group-word-is}
use Rattle.row.proofs.inner.Row.peak_on.Goals as goal

pub returns : goal.returns
returns g c = let r = c.args.self.now in
    let group = flag-word r.bounds.window_group _ 1 (rw c.is_some.ensures at (c.from.ensures ∙ as_number c.is_some.result)) in
    let there = flag-word c.args.on.mobility _ 2 (rw c.is_some-2.ensures at (c.from-2.ensures ∙ as_number c.is_some-2.result)) in
    (λ mobility axis inside e. peak-is r.place r.bounds mobility axis r.y.now r.z.now c.args.a c.args.id inside c.args.on _ _ _ _ e (rw (group, there)) c.unwrap_or-2.ensures (c.unwrap_or.ensures ∙ group-word-is r.bounds.window_group) c.subscan_of.ensures)
