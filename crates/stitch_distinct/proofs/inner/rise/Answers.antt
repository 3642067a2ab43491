use mathlib.Core.Path.{◌≡◌, sym, ◌∙◌, refl}
use Prim.Native.Nat.{◌-◌}
use lib.Dec.{ltb}
use Rattle.std.proofs.Common.{rules, true}
use Rattle.std.proofs.lemmas.Iterator.{YieldsList-from_range, serves_from_Range}
use Rattle.std.proofs.lemmas.Iterator.Search.{all_from_yields_List}
use Rattle.row_record.specs.Record.{id_at}
use Rattle.stitch_distinct.proofs.Laws.{Rises, rises-from, rises-distinct, rises-order}
use Rattle.stitch_distinct.proofs.inner.rise.Goals.{After-all}
use Rattle.stitch_distinct.proofs.inner.rise.Goals as goal

pub all-requires-clause-callable : goal.all-requires-clause-callable
all-requires-clause-callable c = serves_from_Range (λ x q k. search rules) (λ x l h. search rules)

module _ (c : After-all) where
  rises : c.all.result ≡ true → Rises c.args.records.words.now c.args.records.count
  rises e = rises-from c.args.records.words.now c.args.records.count
      (sym (all_from_yields_List (λ k. ltb (id_at c.args.records.words.now (k - 1)) (id_at c.args.records.words.now k)) c.all.new.self _ _ c.all.ensures.ran
      (YieldsList-from_range 1 c.args.records.count (c.args.records.count - 1) refl refl) (λ x b q k. search rules)) ∙ e)

pub returns : goal.returns
returns c = let r = rises (goal.at.returns c).After-all in record { distinct = λ e. rises-distinct c.args.records.words.now c.args.records.count (r e); order = λ e. rises-order c.args.records.words.now c.args.records.count (r e) }
