use mathlib.Core.Path.{◌≡◌, sym}
use mathlib.Core.Bool.{◌&&◌, true, false}
use lib.ListN.{length}
use Rattle.frames_index.specs.FrameIndex.{climbs_to}
use Rattle.frames_index.proofs.Laws.{sound-if, unsound-if}
use Rattle.frames_index.proofs.inner.is_sound.Goals as goal

pub returns-then-climbs_to : goal.returns-then-climbs_to
returns-then-climbs_to c = let s = c.args in
    let climbs : (climbs_to (length s.bins.now) s.starts.now && climbs_to s.points s.offsets.now) ≡ true = rw (sym c.climbs_to.ensures, sym c.climbs_to-2.ensures) c.if-climbs_to.true in
    rw (c.all_up_to.ensures, c.frames_rise.ensures) (sym (sound-if s.starts.now s.bins.now s.offsets.now s.points climbs))

pub returns : goal.returns
returns c = let s = c.args in
    let climbs : (climbs_to (length s.bins.now) s.starts.now && climbs_to s.points s.offsets.now) ≡ false = rw (sym c.climbs_to.ensures, sym c.climbs_to-2.ensures) c.if-climbs_to.false in
    sym (unsound-if s.starts.now s.bins.now s.offsets.now s.points climbs)
