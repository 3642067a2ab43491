use mathlib.Core.Path.{◌≡◌}
use Prim.Native.Nat.{ℕ, ◌+◌, ◌*◌}
use lib.ListN.{length}
use Rattle.row_smoothing.specs.Smoothing.{tabulate, radius, weighted}
use Rattle.row_smoothing.proofs.inner.add_all.Given as goal

abbrev pub invariant-loop-k : goal.invariant-loop-k
invariant-loop-k l =
    record {
      long : length l.dst ≡ length l.fn.dst;
      sums : l.dst ≡ tabulate (length l.fn.dst) (λ (j : ℕ). weighted l.u l.src (j + radius l.u) (4 * l.k));
    }

abbrev pub invariant-loop-k-2 : goal.invariant-loop-k-2
invariant-loop-k-2 l =
    record {
      long : length l.dst ≡ length l.fn.dst;
      sums : l.dst ≡ tabulate (length l.fn.dst) (λ (j : ℕ). weighted l.u l.src (j + radius l.u) l.k);
    }
