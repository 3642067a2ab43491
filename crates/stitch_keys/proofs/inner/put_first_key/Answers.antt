use mathlib.Core.Path.{refl}
use Rattle.stitch_keys.specs.Keys.{key_of}
use Rattle.stitch_keys.proofs.inner.put_first_key.Goals as goal

pub returns : goal.returns
unfolding key_of
returns c = rw (c.copy_from_slice.ensures.after, c.group_words.ensures, c.of-b.ensures) refl
