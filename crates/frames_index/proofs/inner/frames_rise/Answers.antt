use Rattle.std.proofs.Common.{◌&&◌, length, ◌∙◌, rules, tests}
use Rattle.std.proofs.lemmas.Iterator.{YieldsList-from_slice, YieldsList-from_zip, YieldsList-from_map}
use Rattle.std.proofs.lemmas.Iterator.Adapters.{serves_from_places}
use Rattle.std.proofs.lemmas.Iterator.Consumers.{fold_from_yields_List}
use Rattle.row_params.specs.Params.{rising}
use Rattle.frames_index.specs.FrameIndex.{bins_between}
use Rattle.frames_index.proofs.Laws.{climbs-pairs, frames-fold}
use Rattle.frames_index.proofs.inner.frames_rise.Goals as goal

pub fold-requires-clause-can : goal.fold-requires-clause-can
fold-requires-clause-can c =
    let starts = c.args.starts.now in
    let rest = c.in-Some.rest.now in (
      (tt, tt),
      serves_from_places
          (YieldsList-from_zip (YieldsList-from_slice starts cc) (YieldsList-from_slice rest cc))
          (λ x q k. search (rules, tests))
          (λ x k h e. let p = climbs-pairs (length c.args.bins.now) starts rest _ k (x.0.now, x.1.now) c.requires c.in-Some.ensures.cases.0 h e in search (rules, tests)),
    )

pub returns : goal.returns
returns c =
    let bins = c.args.bins.now in
    let starts = c.args.starts.now in
    let rest = c.in-Some.rest.now in
    fold_from_yields_List _ (λ all rise. all && rise) _ _ c.fold.ensures.ran
    (YieldsList-from_map _ (λ p. rising (bins_between bins p.0 p.1)) (YieldsList-from_zip (YieldsList-from_slice starts cc) (YieldsList-from_slice rest cc))
    c.map.ensures.closure (λ p a q k. search (rules, tests)))
    (λ all rise b q k. search (rules, tests))
    ∙ frames-fold bins starts rest _ c.in-Some.ensures.cases.0
