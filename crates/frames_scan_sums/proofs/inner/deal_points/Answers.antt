use Rattle.std.proofs.Common.{◌≡◌, ◌<◌, ◌+◌, ◌-◌, ◌++◌, ◌∷◌, [], length, length-append, get_or, take, drop, refl, sym, ◌∙◌, arith, add-zero}
use Rattle.std.proofs.lemmas.Slice.Zip.{zip_turn, zip_end}
use Rattle.numeric.specs.Arith.{at}
use Rattle.frames_sums.proofs.Laws.{part_at, part_length}
use Rattle.frames_scan_sums.proofs.Laws.{deal-start, deal-end, deal-take, deal-skip}
use Rattle.frames_scan_sums.proofs.inner.deal_points.Goals.{In-Some}
use Rattle.frames_scan_sums.proofs.inner.deal_points.Goals as goal

-- the pair of this turn
turn : (c : In-Some) → let k = length c.loop-scan.yielded in let p = c.args.p in
    (k < p.to - p.from) × (c.in-Some.field-0-0.now ≡ get_or c.ix.inside.scans.now (p.from + k) 0) × (c.in-Some.field-0-1.now ≡ at c.ix.inside.readings.now (p.from + k))
turn c = let p = c.args.p in
    let scans = c.ix.inside.scans.now in
    let readings = c.ix.inside.readings.now in
    let k = length c.loop-scan.yielded in
    let e = c.into_iter-scan-iterator.ensures.into_iter_gives in
    let z = zip_turn (take (p.to - p.from) (drop p.from scans)) (take (p.to - p.from) (drop p.from readings)) c.loop-scan.yielded c.into_iter-scan-iterator.result c.loop-scan.scan-iterator c.next.new.self c.next.result (rw (e, c.zip-scan-items.ensures.first) c.iter.ensures.rest) (rw e c.zip-scan-items.ensures.second.0) c.loop-scan.yielded_by _ c.in-Some.is c.next.ensures.steps in
    let r = rw (← c.ix.view_is) at c.requires in
    let short : k < p.to - p.from = omega (arith, z.0, part_length p.from p.to scans r.0 r.1) in
    (short, z.2 _ ∙ part_at p.from p.to scans k _ short, z.3 _ ∙ part_at p.from p.to readings k _ short)

pub loop-scan-init : goal.loop-scan-init
loop-scan-init c = rw add-zero (deal-start c.args.ix.now c.args.w c.args.p.from c.args.p.to c.args.out.now c.requires.0)

pub loop-scan-preserved-then-has_scan : goal.loop-scan-preserved-then-has_scan
loop-scan-preserved-then-has_scan c = let p = c.args.p in
    let k = length c.loop-scan.yielded in
    let t = turn (goal.at.loop-scan-preserved-then-has_scan c).In-Some in
    let n : p.from + length (c.loop-scan.yielded ++ ((c.in-Some.field-0-0, c.in-Some.field-0-1) ∷ [])) ≡ p.from + k + 1 = rw length-append (omega arith) in
    rw (← c.ix.view_is, n)
    (deal-take _ c.args.w p.from p.to c.args.out.now (p.from + k) c.in-Some.field-0-0.now _ c.loop-scan.out _ (rw (← c.ix.view_is) at c.loop-scan.invariant) (omega (arith, t.0)) t.1 (sym c.has_scan.ensures ∙ c.if-has_scan.true) refl c.requires.2 (rw t.2 refl))

pub loop-scan-preserved : goal.loop-scan-preserved
loop-scan-preserved c = let p = c.args.p in
    let k = length c.loop-scan.yielded in
    let t = turn (goal.at.loop-scan-preserved c).In-Some in
    let n : p.from + length (c.loop-scan.yielded ++ ((c.in-Some.field-0-0, c.in-Some.field-0-1) ∷ [])) ≡ p.from + k + 1 = rw length-append (omega arith) in
    rw (← c.ix.view_is, n)
    (deal-skip _ c.args.w p.from p.to c.args.out.now (p.from + k) c.in-Some.field-0-0.now c.loop-scan.out (rw (← c.ix.view_is) at c.loop-scan.invariant) (omega (arith, t.0)) t.1 (sym c.has_scan.ensures ∙ c.if-has_scan.false))

pub returns : goal.returns
returns c = let p = c.args.p in
    let scans = c.ix.inside.scans.now in
    let readings = c.ix.inside.readings.now in
    let e = c.into_iter-scan-iterator.ensures.into_iter_gives in
    let z = zip_end (take (p.to - p.from) (drop p.from scans)) (take (p.to - p.from) (drop p.from readings)) c.loop-scan.yielded c.into_iter-scan-iterator.result c.loop-scan.scan-iterator c.next.new.self c.next.result (rw (e, c.zip-scan-items.ensures.first) c.iter.ensures.rest) (rw e c.zip-scan-items.ensures.second.0) c.loop-scan.yielded_by c.in-None.is c.next.ensures.steps in
    let r = rw (← c.ix.view_is) at c.requires in
    let a = part_length p.from p.to scans r.0 r.1 in
    let b = part_length p.from p.to readings r.0 (omega (arith, r.1, c.ix.invariant.readings)) in
    deal-end c.args.ix.now c.args.w p.from p.to c.args.out.now (p.from + length c.loop-scan.yielded) c.loop-scan.out c.loop-scan.invariant (omega (arith, z, a, b))
