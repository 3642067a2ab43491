use Rattle.std.proofs.Common.{arith}
use Rattle.expand_padded_window.proofs.Laws.{window-in}
use Rattle.expand_window.proofs.inner.window_of.Goals as goal

pub sigma_over-requires : goal.sigma_over-requires
sigma_over-requires c = let s = c.args in
    let w = c.in_ok-frames.frames in
    let i = window-in s.ids.now s.p.frame_id_lo s.p.frame_id_hi s.e.rt_pad_frames w.lo w.hi c.requires.3 c.in_ok-frames.ensures in
    (i.0, omega (arith, i.1, c.requires.2))
