use mathlib.Core.Path.{◌≡◌}
use mathlib.Core.List.{◌++◌}
use Prim.Native.Nat.{◌*◌}
use lib.ListN.{drop}
use Rattle.stitch_peaks.specs.PeakList.{peaks_of}
use Rattle.stitch_keys.specs.Keys.{key_table}
use Rattle.stitch_keys.proofs.inner.put_keys.Given as goal

abbrev pub invariant-loop-k : goal.invariant-loop-k
invariant-loop-k l = l.table ≡ key_table l.rule (peaks_of l.records.words.now l.k) ++ drop (l.k * l.width) l.initial.table
