use native.Mathlib.Omega.{arith}
use Rattle.frames_windows.specs.Windows.{bounds_window}
use Rattle.frames_windows.proofs.Laws.{window-held}
use Rattle.frames_windows.proofs.inner.bounds_window.Goals as goal

pub padded_bins-requires : goal.padded_bins-requires
padded_bins-requires c = rw c.window_bins-bins.ensures (omega (arith, window-held c.args.scale.scale c.args.scale.sound c.args.b.tof_lo c.args.b.tof_hi, c.requires))

pub returns : goal.returns
unfolding bounds_window
returns c = rw (c.padded_bins.ensures, c.window_bins-bins.ensures)
