use borrow.Author.Tests.{lt-ltb, le-ltb}
use Rattle.test_probe.specs.Probe.{sound_word}
use Rattle.test_probe.proofs.probe_sound.Goals as goal

pub returns-then-is_sound : goal.returns-then-is_sound
unfolding sound_word
returns-then-is_sound c = rw (lt-ltb _ _ c.if-k-list.true, ← c.peak_at.ensures, ← c.is_sound.ensures, c.if-is_sound.true)

pub returns-then-k-list : goal.returns-then-k-list
unfolding sound_word
returns-then-k-list c = rw (lt-ltb _ _ c.if-k-list.true, ← c.peak_at.ensures, ← c.is_sound.ensures, c.if-is_sound.false)

pub returns : goal.returns
unfolding sound_word
returns c = rw (le-ltb _ _ c.if-k-list.false)
