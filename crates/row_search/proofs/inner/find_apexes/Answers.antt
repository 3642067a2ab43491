use mathlib.Core.Path.{◌∙◌, ap}
use native.Mathlib.Omega.{arith}
use Rattle.numeric.proofs.Patterns.{all_plain}
use Rattle.row_search.proofs.Laws.{few-apexes, kept-of-row}
use Rattle.row_search.proofs.QualifyingLaws.{kept-count}
use lib.ListN.{length}
use Rattle.row_search.proofs.inner.find_apexes.Goals as goal

pub find-m-requires : goal.find-m-requires
find-m-requires c = let r = c.args.s.now.room in
    let few = c.requires.room in
    record {
      plain = all_plain 0x7f80_0000 c.args.y.now (omega arith) c.requires.numbers c.all_fit.ensures;
      short = c.requires.short;
      turns-long = omega (arith, r.turns-long);
      bases-long = omega (arith, r.bases-long);
      stack-long = let l = r.found-long in omega arith;
    }

pub keep_all-requires : goal.keep_all-requires
keep_all-requires c =
    let few = few-apexes c.args.y.now _ _ c.find-m.result c.find-m.ensures in
    let same = c.find-m.auto.stack in
    let l = c.args.s.now.room.found-long in
    let r = c.requires.room in
    (c.find-m.ensures, c.requires.short, omega (arith, c.requires.raw, c.requires.short), omega arith)

pub returns-clause-done : goal.returns-clause-done
returns-clause-done c =
    let e = kept-of-row c.args.p c.args.y.now c.args.z.now _ _ c.find-m.result c.find-m.ensures c.requires.floor in
    let few = kept-count c.args.p c.args.y.now c.args.z.now in
    let n = c.keep_all.ensures.0 ∙ ap length e in
    let l = c.args.s.now.room.found-long in
    let r = c.requires.room in
    record { count = n; stand = rw e at c.keep_all.ensures.1; room = omega (arith, c.keep_all.auto.found, c.find-m.auto.stack) }
