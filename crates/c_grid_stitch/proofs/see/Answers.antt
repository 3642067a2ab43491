use Prim.Native.Nat.{◌/◌}
use native.Mathlib.Omega.{arith}
use lib.ListN.{length}
use Rattle.grid_word_bytes.proofs.BytesLaws.{floats-length, words-length}
use Rattle.c_grid_stitch.proofs.see.Goals as goal

pub returns : goal.returns
returns c = let x = c.args in
    rw (floats-length x.used.now, words-length x.scans.now (length x.scans.now / 4), floats-length x.mobility.now, c.sound_weights.ensures, c.axis_up_to.ensures, c.all_words_up_to-2.ensures.floats (omega arith), c.all_words_up_to.ensures.floats (omega arith), c.is_rising-rising_scans.ensures)
