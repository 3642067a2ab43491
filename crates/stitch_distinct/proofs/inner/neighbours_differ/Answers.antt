use mathlib.Core.Path.{◌∙◌}
use mathlib.Core.Bool.{not}
use lib.Dec.{eqb}
use lib.ListN.{get_or}
use Rattle.std.proofs.Common.{rules}
use Rattle.std.proofs.lemmas.Iterator.{YieldsList-from_slice, YieldsList-from_zip}
use Rattle.std.proofs.lemmas.Iterator.Adapters.{YieldsList-from_skip, serves_from_places}
use Rattle.std.proofs.lemmas.Iterator.Search.{all_from_yields_List}
use Rattle.sort_rows.proofs.Laws.{pairs-in}
use Rattle.stitch_distinct.proofs.Laws.{pairs-differ}
use Rattle.stitch_distinct.proofs.inner.neighbours_differ.Goals as goal

pub all-requires-clause-callable : goal.all-requires-clause-callable
all-requires-clause-callable c =
    serves_from_places
    (YieldsList-from_zip {s = c.zip.result} (YieldsList-from_slice c.args.order.now (search rules)) (YieldsList-from_skip 1 (YieldsList-from_slice c.args.order.now (search rules)) (search rules)))
    (λ x q k. search rules)
    (λ x k h e.
    let m = pairs-in c.args.order.now k (x.0.now, x.1.now) h e in
    let a = c.requires x.0.now m.0 in
    let b = c.requires x.1.now m.1 in search rules)

pub returns : goal.returns
returns c =
    all_from_yields_List (λ y. not (eqb (get_or c.args.ids.now y.0 0) (get_or c.args.ids.now y.1 0))) c.all.new.self _ _ c.all.ensures.ran
    (YieldsList-from_zip {s = c.zip.result} (YieldsList-from_slice c.args.order.now (search rules)) (YieldsList-from_skip 1 (YieldsList-from_slice c.args.order.now (search rules)) (search rules)))
    (λ x b q k. search rules)
    ∙ pairs-differ (λ p. get_or c.args.ids.now p 0) c.args.order.now
