use mathlib.Core.Path.{◌≡◌, sym, ◌∙◌}
use lib.Dec.{eqb}
use Rattle.std.specs.List.{list_all, enumerate_from}
use Rattle.std.proofs.Common.{rules}
use Rattle.std.proofs.lemmas.Iterator.{YieldsList-from_slice}
use Rattle.std.proofs.lemmas.Iterator.Consumers.{YieldsList-from_enumerate}
use Rattle.std.proofs.lemmas.Iterator.Search.{all_from_yields_List}
use Rattle.stitch_passes.proofs.Laws.{all-found}
use Rattle.stitch_passes.proofs.inner.stands.Goals as goal

pub returns : goal.returns
returns c =
    let order = c.args.order.now in
    let all : c.all.result ≡ list_all (λ y. eqb y.1 y.0) (enumerate_from 0 order) =
    all_from_yields_List (λ y. eqb y.1 y.0) c.all.new.self _ _ c.all.ensures.ran
    (YieldsList-from_enumerate {s = c.enumerate.result} (YieldsList-from_slice order (search rules)) (search rules))
    (λ x b q k. search rules) in
    λ e. all-found order (sym all ∙ e)
