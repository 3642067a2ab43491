use Rattle.std.proofs.Common.{◌≡◌, refl, sym, ◌∙◌, ap, ℕ, ◌+◌, length, get_or, arith}
use lib.Seq.{take_all}
use Rattle.rt_record.specs.declared.RtLocalPeak.{RtLocalPeak}
use Rattle.expand_placed.specs.Placed.{placed}
use Rattle.rt_apex.specs.InTime.{local_peak_of}
use Rattle.rt_listing.specs.Places.{index_at}
use Rattle.expand_peak.proofs.Laws.{none-listed, one-listed}
use Rattle.expand_peak.proofs.inner.put_listed.Goals as goal
use Rattle.rt_apex.proofs.Laws.{local-index}

pub loop-k-init : goal.loop-k-init
loop-k-init c = let g = c.args in
    let t = g.trace in
    (refl, none-listed t.smoothed.now t.raw.now t.times.now g.found.now g.order.now g.at.lo g.at.ids.now g.at.peak g.at.first g.out.now)

pub place_apex-q-requires : goal.place_apex-q-requires
place_apex-q-requires c = let g = c.args in
    let t = g.trace in
    let inside = (c.requires.stand c.loop-k.k (omega arith)).inside in
    let high = inside.high in
    let at : c.local_peak-l.result.apex.rt_idx ≡ index_at g.found.now (get_or g.order.now c.loop-k.k 0) =
    ap (λ (q : RtLocalPeak). q.apex.rt_idx) c.local_peak-l.ensures ∙ local-index t.smoothed.now t.raw.now t.times.now _ in
    (omega arith, c.requires.frames, c.requires.short, omega (arith, at, high))

pub loop-k-preserved : goal.loop-k-preserved
loop-k-preserved c = let g = c.args in
    let t = g.trace in
    let k = c.loop-k.k in
    let inv = c.loop-k.invariant in
    let peak = c.place_apex-q.ensures
    ∙ ap (λ (q : RtLocalPeak). placed g.at.lo (length t.smoothed.now) g.at.ids.now g.at.peak q.apex (g.at.first + k)) c.local_peak-l.ensures
    ∙ ap (λ (n : ℕ). placed g.at.lo n g.at.ids.now g.at.peak (local_peak_of t.smoothed.now t.raw.now t.times.now (index_at g.found.now (get_or g.order.now k 0))).apex (g.at.first + k)) (sym c.requires.raw) in (
      c.put_rt_peak.auto.out ∙ inv.0,
      rw c.put_rt_peak.ensures
          (one-listed t.smoothed.now t.raw.now t.times.now g.found.now g.order.now g.at.lo g.at.ids.now g.at.peak g.at.first g.out.now c.loop-k.out k c.place_apex-q.result (omega arith) inv.1 peak),
    )

pub returns : goal.returns
returns c = let order = c.args.order.now in
    let e : c.loop-k.k ≡ length order = omega arith in
    rw (e, take_all (length order) order (omega arith)) at c.loop-k.invariant.1
