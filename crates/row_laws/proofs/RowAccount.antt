-- The account of a row's qualifying apexes.
use Rattle.row_search.specs.Qualifying.{qualifying, kept}
use Rattle.row_search.proofs.Account.{all-accounted}
use Rattle.row_search.proofs.QualifyingLaws.{qualifying-ascend, qualifying-no-nan}
use Rattle.row_laws.specs.RowAccount.{RowAccounted}

pub row-accounted : RowAccounted
unfolding kept
row-accounted p y z = all-accounted p.min_distance_scans y (qualifying p y z) (qualifying-ascend p y z) (qualifying-no-nan p y z)
