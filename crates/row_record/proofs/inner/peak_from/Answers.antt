use mathlib.Core.Path.{refl}
use Rattle.row_record.specs.Record.{peak_from}
use Rattle.row_record.proofs.inner.peak_from.Goals as goal

pub returns : goal.returns
unfolding peak_from
returns c = rw (c.float_of.ensures, c.float_of-2.ensures, c.float_of-3.ensures, c.float_of-4.ensures, c.float_of-5.ensures, c.float_of-6.ensures, c.float_of-7.ensures, c.float_of-8.ensures, c.float_of-9.ensures, c.im_id.ensures) refl
