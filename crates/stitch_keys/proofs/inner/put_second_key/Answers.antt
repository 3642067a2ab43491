use mathlib.Core.Path.{refl}
use Rattle.stitch_matching.specs.Matching.{group_of}
use Rattle.stitch_keys.specs.Keys.{key_of}
use Rattle.stitch_keys.proofs.inner.put_second_key.Goals as goal

pub returns : goal.returns
unfolding key_of group_of
returns c = rw (c.copy_from_slice.ensures.after, c.group_words.ensures, c.group.ensures) refl
