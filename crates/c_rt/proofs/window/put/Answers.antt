use mathlib.Core.Path.{refl}
use Rattle.c_rt.proofs.window.put.Goals as goal

pub returns : goal.returns
returns c = rw (c.copy_from_slice.ensures.after, c.word_of.ensures) refl
