use Rattle.std.proofs.Common.{rules, ◌≡◌, refl, ℕ, Option, Some, None, ◌+◌, ◌∙◌}
use Rattle.row_apex.specs.Apex.{right_foot}
use Rattle.row_apex.proofs.Laws.{right-found, right-none}
use Rattle.row_apex.proofs.inner.Level.right_foot.Goals as goal

pub returns : goal.returns
returns c = go c.position.result refl
  where
    go : (o : Option ℕ) → c.position.result ≡ o → c.map_or.result ≡ right_foot c.args.self.y.now c.args.self.h c.args.self.i
    go (Some n) e = let s = c.args.self in
        let is : c.map_or.result ≡ s.i + n = search (rules, rw e at c.map_or.ensures) in
        let p = rw e at c.position.ensures in
        is ∙ right-found s.y.now c.iter.result.rest.now s.h s.i s.inside c.iter.ensures.rest n (search (rules, p)) (search (rules, p)) (search (rules, p))
    go None e = let s = c.args.self in
        let p = rw e at c.position.ensures in
        (rw e at c.map_or.ensures) ∙ right-none s.y.now c.iter.result.rest.now s.h s.i s.inside c.iter.ensures.rest (search (rules, p))
