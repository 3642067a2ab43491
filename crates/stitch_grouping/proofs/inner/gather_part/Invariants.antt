use mathlib.Core.Path.{◌≡◌}
use Prim.Native.Nat.{◌+◌, ◌*◌, ◌≤◌}
use lib.ListN.{length, drop}
use Rattle.std.specs.Slice.Iter.{chunks_exact_rest, chunks_exact_size}
use Rattle.row_record.specs.Record.{size}
use Rattle.stitch_peaks.specs.PeakList.{peaks_of}
use Rattle.stitch_merging.specs.Walk.{Holds}
use Rattle.stitch_grouping.proofs.inner.gather_part.Given as goal

abbrev pub invariant-loop-words : goal.invariant-loop-words
invariant-loop-words l =
    (goal.iterator-loop-words).can_next l.words-iterator × (goal.iterator-loop-words).is_finite l.words-iterator
    × (chunks_exact_size l.words-iterator ≡ size) × ((length l.yielded + 1) * size ≤ length l.records)
    × (chunks_exact_rest l.words-iterator ≡ drop ((length l.yielded + 1) * size) l.records)
    × Holds l.m (peaks_of l.records (length l.yielded + 1))
