use Rattle.std.proofs.Common.{Bool, ◌&&◌, eqb, leb, length, get_or, ap, ◌∙◌}
use Rattle.std.proofs.iter.Serving.{serving}
use Rattle.frames_index.proofs.Laws.{climbs-fold}
use Rattle.frames_index.proofs.inner.climbs_to.Goals as goal

pub returns : goal.returns
returns c =
    let list = c.args.list.now in
    let rest = c.in-Some.rest.now in
    let s = c.in-Some.field-0-0.now in
    ap (λ (b : Bool). (eqb s 0 && b) && eqb (get_or list (length rest) 0) c.args.n) (c.all_neighbours-climbs.ensures leb (λ x y r p. grind serving))
    ∙ climbs-fold c.args.n list rest s c.in-Some.ensures.cases.0
