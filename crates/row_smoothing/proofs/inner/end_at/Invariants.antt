use Rattle.std.proofs.Common.{◌≡◌, ◌≤◌, ◌+◌, ◌-◌, ◌/◌, length, drop}
use Rattle.std.specs.Iterator.Adapters.{zip_first, zip_second}
use Rattle.std.specs.Slice.Iter.{iter_rest}
use Rattle.row_smoothing.specs.Smoothing.{weighted, met}
use Rattle.row_smoothing.proofs.inner.end_at.Given as goal

abbrev pub invariant-loop-w : goal.invariant-loop-w
invariant-loop-w l =
    let k = l.left + length l.yielded in
    (k ≤ length l.u) × (length l.u / 2 ≤ l.i + k)
    × (iter_rest (zip_first l.w-iterator) ≡ drop k l.u) × (iter_rest (zip_second l.w-iterator) ≡ drop (l.i + k - length l.u / 2) l.src)
    × (l.sum ≡ weighted l.u l.src l.i k) × (l.norm ≡ met l.u (length l.src) l.i k)
