use Prim.Native.Nat.{◌-◌}
use Rattle.grid_bytes.proofs.sized.+detect_bytes.Given as goal

abbrev pub decreases-detect_bytes : goal.decreases-detect_bytes
decreases-detect_bytes l = l.rows.end - l.rows.start
