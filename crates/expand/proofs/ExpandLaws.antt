-- What the number of expansion's second call says.
use Rattle.limits.specs.Limits.{max_reading}
use Rattle.frames_index.proofs.IndexNumberLaws.{number-lowest as index-lowest}
use Rattle.expand.specs.ExpandCall.{many_asks}
use Rattle.expand.specs.ExpandLaws.{ExpandLowest}

pub number-lowest : ExpandLowest
number-lowest m lent counts h = index-lowest max_reading m.run.index (many_asks m lent counts) h
