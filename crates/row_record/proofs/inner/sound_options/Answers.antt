use mathlib.Core.Path.{refl}
use Rattle.row_record.specs.Record.{sound_options}
use Rattle.row_record.proofs.inner.sound_options.Goals as goal

pub returns : goal.returns
unfolding sound_options
returns c = rw (c.is_modest.ensures _ _ c.sigma.ensures, c.is_modest-2.ensures _ _ c.mobility.ensures, c.peak_from-p.ensures) refl
