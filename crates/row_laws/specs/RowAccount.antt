-- No qualifying apex of a row goes missing unexplained: it is kept, and so has a record (RowRecords.antt), or it gives way to another
-- qualifying one that is nearer than the least distance and no lower, and from which steps to later and higher ones lead to a kept one. Proved in
-- proofs/RowAccount.antt.
use Rattle.std.specs.Prelude.{List, Float}
use Rattle.row_params.specs.declared.ImDetectParams.{ImDetectParams}
use Rattle.row_search.specs.Qualifying.{qualifying, kept}
use Rattle.row_search.specs.Account.{All, Accounted}

-- y is the smoothed row, z the raw one; nothing is asked of them
abbrev pub RowAccounted : Type 0
RowAccounted =
    (p : ImDetectParams) (y z : List Float) → All (Accounted p.min_distance_scans y (qualifying p y z) (kept p y z)) (qualifying p y z)
