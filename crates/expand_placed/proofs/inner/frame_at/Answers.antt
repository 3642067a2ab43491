use Rattle.std.proofs.Common.{◌≡◌}
use Rattle.row_spans.specs.Span.{sample_at}
use Rattle.expand_placed.proofs.Laws.{sample-most}
use Rattle.expand_placed.proofs.inner.frame_at.Goals as goal

pub returns : goal.returns
returns c = let s = c.args in
    let is : c.cast_sat.result ≡ sample_at s.n s.x = simp (c.cast_sat.ensures, c.clamp.ensures, c.of_index-last.ensures) in
    record { is = is; inside = rw is (sample-most s.n s.x c.requires.0 c.requires.1) }
