use Rattle.std.proofs.Common.{◌≡◌, length}
use Rattle.expand_many.specs.Many.{sum_to}
use Rattle.expand_many.specs.Calls.{many_in}
use Rattle.expand_many.specs.Steps.{Done}
use Rattle.expand_many.proofs.inner.expand_peaks.Given as goal

abbrev pub invariant-loop-i : goal.invariant-loop-i
invariant-loop-i l =
    record {
      out : length l.out ≡ length l.initial.out;
      counts : length l.counts ≡ length l.initial.counts;
      samples : l.scratch.trace.search.samples ≡ l.initial.scratch.trace.search.samples;
      at : l.at ≡ sum_to l.peaks.lengths.now l.i;
      done : Done (many_in l.run l.peaks) l.i l.initial.out l.initial.counts l.total l.out l.counts;
    }
