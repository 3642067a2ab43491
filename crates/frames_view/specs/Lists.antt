-- The lent lists of the structs that hold them.
use Rattle.frames_bins.specs.declared.lists.View.{View}
use Rattle.frames_bins.specs.declared.lists.Scratch.{Scratch}
use Rattle.frames_view.specs.Answer.{Lent, lent_of}

abbrev pub lent_in : View → Scratch → Lent
lent_in v s = lent_of v.bins.now v.offsets.now v.scans.now v.readings.now s.keys.now s.order.now s.spare.now
