use Rattle.row_record.specs.Record.{peak_from, sound_shape}
use Rattle.limits.specs.Limits.{max_height, max_area}
use Rattle.numeric.proofs.Patterns.{range-word}
use Rattle.row_record.proofs.Words.{offset_word, places-words}
use native.Mathlib.Omega.{arith}
use Rattle.row_record.proofs.inner.sound_shape.Goals as goal

pub returns : goal.returns
unfolding sound_shape peak_from
returns c = let k = c.fits-w in
    rw (c.as_slice-w.ensures, range-word max_height _ (k 18) (omega arith), range-word max_height _ (k 19) (omega arith), range-word max_height _ (k 20) (omega arith), places-words _ _ _ (k 21) (k 22), range-word max_area _ (k 24) (omega arith), offset_word _ (k 25))
