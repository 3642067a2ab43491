use mathlib.Core.Path.{◌≡◌, sym, ap, subst, ◌∙◌}
use mathlib.Core.List.{[], ◌∷◌, ◌++◌}
use Prim.Native.Nat.{◌+◌, ◌-◌, ◌*◌, ◌/◌, ◌<◌}
use native.Mathlib.Omega.{arith}
use lib.ListN.{length, length-append, length-drop, drop}
use lib.ListN.{take, take-append-drop}
use lib.Seq.{length-take-le}
use Rattle.std.specs.Slice.Iter.{chunks_exact_rest, chunks_exact_size}
use Rattle.row_record.specs.Record.{size, peak_at}
use Rattle.row_record.proofs.Laws.{chunk-peak, chunk-rest, chunk-room}
use Rattle.stitch_peaks.specs.PeakList.{peaks_of}
use Rattle.stitch_merging.specs.Walk.{Holds}
use Rattle.stitch_grouping.proofs.Laws.{first-peak, next-peaks}
use Rattle.stitch_grouping.proofs.inner.gather_part.Goals as goal

pub loop-words-init : goal.loop-words-init
loop-words-init c = let e = c.into_iter-words-iterator.ensures.into_iter_gives in
    let l = c.args.records.now in
    let s : chunks_exact_size c.into_iter-words-iterator.result ≡ size = ap chunks_exact_size e ∙ c.chunks_exact-words-items.ensures.size in
    let b : chunks_exact_rest c.into_iter-words-iterator.result ≡ drop size l = ap chunks_exact_rest e ∙ c.chunks_exact-words-items.ensures.rest ∙ c.split_at.ensures.back in
    let front : c.split_at.result.0.now ≡ take size l = c.split_at.ensures.front in
    let p : c.peak_at.result ≡ peak_at l 0 = c.peak_at.ensures ∙ ap (λ x. peak_at x 0) front ∙ chunk-peak l (take size l) (drop size l) 0 (length-take-le size l c.requires) (sym (take-append-drop size l)) in
    (rw s (omega arith), tt, s, omega (arith, c.requires), b, rw (first-peak l, ← p) c.start-m.ensures)

pub loop-words-preserved : goal.loop-words-preserved
loop-words-preserved c =
    let l = c.args.records.now in
    let k = length c.loop-words.yielded + 1 in
    let steps = c.in-Some.ensures.steps in
    let inv = c.loop-words.invariant in
    let more : length (c.loop-words.yielded ++ (c.in-Some.words ∷ [])) ≡ k = length-append c.loop-words.yielded _ in
    let whole : length c.in-Some.words.now ≡ size = steps.1.1 ∙ inv.2 in
    let here : drop (k * size) l ≡ c.in-Some.words.now ++ chunks_exact_rest c.next.new.self = sym inv.4 ∙ steps.1.0 in
    let p : c.peak_at-in-loop-words.result ≡ peak_at l k = c.peak_at-in-loop-words.ensures ∙ chunk-peak l _ _ k whole here in
    let s = steps.0 ∙ inv.2 in
    rw more (rw s (omega arith), tt, s, chunk-room l _ _ k inv.3 whole here, chunk-rest l _ _ k whole here, rw (next-peaks l k, ← p) (c.join-m.ensures (peaks_of l k) inv.5))

pub returns : goal.returns
returns c =
    let l = c.args.records.now in
    let k = length c.loop-words.yielded + 1 in
    let inv = c.loop-words.invariant in
    let last = c.in-None.ensures.steps in
    let few : length l - k * size < size = rw (inv.2, inv.4, length-drop) at last.1.0 in
    let e : k ≡ length l / size = omega (arith, few, inv.3) in
    subst (λ n. Holds c.loop-words.m (peaks_of l n)) e inv.5
