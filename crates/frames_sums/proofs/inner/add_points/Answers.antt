use Rattle.std.proofs.Common.{◌≡◌, ◌-◌, ◌/◌, List, ℕ, length, take, drop, sym, ◌∙◌, arith, rules, tests}
use Rattle.std.specs.Prelude.{Float}
use Rattle.std.specs.List.{zip}
use Rattle.std.proofs.lemmas.Iterator.{YieldsList-from_slice, YieldsList-from_zip}
use Rattle.std.proofs.lemmas.Iterator.Consumers.{fold_from_yields_List}
use Rattle.frames_index.specs.FrameIndex.{index_of}
use Rattle.frames_sums.specs.Steps.{add_each}
use Rattle.frames_sums.proofs.Laws.{part_length, points-each, each-out, each-runs}
use Rattle.frames_sums.proofs.inner.add_points.Goals as goal

pub returns : goal.returns
returns c starts bins offsets =
    let w = c.args.w in
    let from = c.args.p.from in
    let n = c.args.p.to - from in
    let s : List ℕ = take n (drop from c.args.scans.now) in
    let r : List Float = take n (drop from c.args.readings.now) in
    let ls : length s ≡ n = part_length from c.args.p.to c.args.scans.now c.requires.0 c.requires.1 in
    let lr : length r ≡ n = part_length from c.args.p.to c.args.readings.now c.requires.0 (omega (arith, c.requires.1, c.requires.2)) in
    let k = length s / 8 in
    let same : length r ≡ length s = lr ∙ sym ls in
    let runs = fold_from_yields_List _ (λ (sum : Float) (p : List ℕ × List Float). add_each w sum (zip p.0 p.1)) _ _ c.fold-sum.ensures.ran
    (YieldsList-from_zip (YieldsList-from_slice c.as_chunks.result.0.now cc) (YieldsList-from_slice c.as_chunks-2.result.0.now cc)) (λ sum p b q m. search (rules, tests, each-out)) in
    c.add_each.ensures
    ∙ rw (runs, c.as_chunks.ensures.front, c.as_chunks-2.ensures.front, c.as_chunks.ensures.back, c.as_chunks-2.ensures.back, same)
    (each-runs w 8 k s r c.args.so)
    ∙ sym (points-each (index_of starts bins offsets c.args.scans.now c.args.readings.now) w n from c.args.so (omega (arith, c.requires.0, c.requires.1)) (omega (arith, c.requires.0, c.requires.1, c.requires.2)))
