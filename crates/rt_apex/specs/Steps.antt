-- What the steps ask of an apex.
use Rattle.std.specs.Prelude.{◌≡◌, List, ◌+◌, ◌≤◌, ◌<◌, length, Float}
use Rattle.limits.specs.Limits.{exact_index}
use Rattle.row_search.specs.Found.{measured_of}
use Rattle.row_search.specs.declared.inner.Measured.{Measured}

-- what is measured of an apex that has a neighbour on either side, in a trace of which all is there
pub record Inside (y z t : List Float) (a : Measured) : Type 0 where
  pub is : a ≡ measured_of y z a.index
  pub low : 0 < a.index
  pub high : a.index + 1 < length y
  pub raw : length z ≡ length y
  pub times : length t ≡ length y
  pub short : length y ≤ exact_index
