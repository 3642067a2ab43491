use mathlib.Core.Path.{sym, ap, ◌∙◌}
use Prim.Native.Nat.{min, max}
use Rattle.stitch_peaks.proofs.Extremes.{extreme-cons, lowest-choice, highest-choice}
use Rattle.stitch_matching.proofs.inner.Spans.widened.Goals as goal

pub returns : goal.returns
returns c = let p = c.args.p in
    λ q ps h. record {
      min_row = c.min.ensures ∙ ap (min p.tof_row) h.min_row ∙ sym (extreme-cons min _ lowest-choice (λ m. m.tof_row) p q ps);
      max_row = c.max.ensures ∙ ap (max p.tof_row) h.max_row ∙ sym (extreme-cons max _ highest-choice (λ m. m.tof_row) p q ps);
      min_scan = c.min-2.ensures ∙ ap (min p.scan_abs) h.min_scan ∙ sym (extreme-cons min _ lowest-choice (λ m. m.scan_abs) p q ps);
      max_scan = c.max-2.ensures ∙ ap (max p.scan_abs) h.max_scan ∙ sym (extreme-cons max _ highest-choice (λ m. m.scan_abs) p q ps);
    }
