use Rattle.std.proofs.Common.{refl, ◌∙◌, length, arith}
use lib.ListN.{length-set}
use Rattle.expand_many.specs.Many.{Many}
use Rattle.expand_many.specs.Calls.{many_in}
use Rattle.expand_many.proofs.Laws.{sum-start, sum-next, done-start, turn-most, turn-id, turn-weights, turn-reachable, turn-count, turn-done}
use Rattle.expand_many.proofs.inner.expand_peaks.Goals as goal

pub loop-i-init : goal.loop-i-init
loop-i-init c = let g = c.args in
    let m : Many = many_in g.run.now g.peaks.now in
    record { out = refl; counts = refl; samples = refl; at = sum-start g.peaks.now.lengths.now; done = done-start m g.out.now g.counts.now }

pub overflow_cast-turn : goal.overflow_cast-turn
overflow_cast-turn c = let g = c.args in
    let l = c.loop-i in
    omega (arith, turn-id (many_in g.run.now g.peaks.now) (length g.peaks.now.lengths.now) (length g.out.now) (length g.counts.now) c.requires.0 l.i l.total (omega arith) l.invariant.done.peaks.count, c.well_formed)

pub overflow_add-turn : goal.overflow_add-turn
overflow_add-turn c = let g = c.args in
    let l = c.loop-i in
    omega (arith, turn-id (many_in g.run.now g.peaks.now) (length g.peaks.now.lengths.now) (length g.out.now) (length g.counts.now) c.requires.0 l.i l.total (omega arith) l.invariant.done.peaks.count, c.well_formed)

pub expand_at-r-requires : goal.expand_at-r-requires
expand_at-r-requires c = let g = c.args in
    let l = c.loop-i in (
      turn-reachable (many_in g.run.now g.peaks.now) (length g.peaks.now.lengths.now) (length g.out.now) (length g.counts.now) c.requires.0 l.i l.total (omega arith) l.invariant.done.peaks.count l.at _ (length l.out) l.invariant.at refl l.invariant.out,
      rw l.invariant.samples c.requires.1,
    )

pub overflow_cast-counts : goal.overflow_cast-counts
overflow_cast-counts c = let g = c.args in
    let l = c.loop-i in
    omega (arith, turn-count (many_in g.run.now g.peaks.now) (length g.peaks.now.lengths.now) (length g.out.now) (length g.counts.now) c.requires.0 l.i l.total (omega arith) l.invariant.done.peaks.count c.expand_at-r.result l.at _ g.out.now l.out c.expand_at-r.new.out g.counts.now l.counts l.invariant.at refl l.invariant.done c.expand_at-r.ensures.put, c.well_formed, c.requires.0.run.short)

pub overflow_add-total : goal.overflow_add-total
overflow_add-total c = let g = c.args in
    let l = c.loop-i in
    omega (arith, turn-count (many_in g.run.now g.peaks.now) (length g.peaks.now.lengths.now) (length g.out.now) (length g.counts.now) c.requires.0 l.i l.total (omega arith) l.invariant.done.peaks.count c.expand_at-r.result l.at _ g.out.now l.out c.expand_at-r.new.out g.counts.now l.counts l.invariant.at refl l.invariant.done c.expand_at-r.ensures.put, turn-most (many_in g.run.now g.peaks.now) (length g.peaks.now.lengths.now) (length g.out.now) (length g.counts.now) c.requires.0 l.i l.total (omega arith) l.invariant.done.peaks.count, c.requires.0.named)

pub overflow_add-at : goal.overflow_add-at
overflow_add-at c = let g = c.args in
    let l = c.loop-i in
    omega (arith, turn-weights (many_in g.run.now g.peaks.now) (length g.peaks.now.lengths.now) (length g.out.now) (length g.counts.now) c.requires.0 l.i l.total (omega arith) l.invariant.done.peaks.count, l.invariant.at, c.well_formed, c.type_inv.peaks)

pub loop-i-preserved : goal.loop-i-preserved
loop-i-preserved c = let g = c.args in
    let l = c.loop-i in
    let r = c.expand_at-r in
    record {
      out = r.auto.out ∙ l.invariant.out;
      counts = length-set l.counts l.i r.result ∙ l.invariant.counts;
      samples = r.ensures.samples ∙ l.invariant.samples;
      at = omega (arith, sum-next g.peaks.now.lengths.now l.i, l.invariant.at);
      done = turn-done (many_in g.run.now g.peaks.now) (length g.peaks.now.lengths.now) (length g.out.now) (length g.counts.now) c.requires.0 l.i l.total (omega arith) l.invariant.done.peaks.count r.result l.at _ g.out.now l.out r.new.out g.counts.now l.counts l.invariant.at refl l.invariant.done r.ensures.put c.requires.0.counted;
    }
