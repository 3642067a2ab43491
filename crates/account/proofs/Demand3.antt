-- The demand, from the accounts of its three parts.
use mathlib.Core.Path.{sym}
use mathlib.Core.List.{List}
use Prim.Native.Nat.{ℕ}
use native.Mathlib.Omega.{arith}
use borrow.Author.Tests.{eq-eqb, eqb-true}
use lib.Dec.{eqb}
use lib.ListN.{length}
use Rattle.sort_digits.specs.Sorted.{up_to}
use Rattle.sort_digits.proofs.UpTo.{upto-has}
use Rattle.stitch_passes.specs.Account.{owner_at, members_of}
use Rattle.stitch_passes.proofs.Account.{places-has, places-only}
use Rattle.stitch.specs.StitchNumber.{peaks_in}
use Rattle.stitch.specs.Answer.{Lent}
use Rattle.stitch_peaks.proofs.PeakListLaws.{peaks-length}
use Rattle.stitch.specs.StitchNumber.{count_in}
use Rattle.stitch_laws.specs.StitchAccount.{Accounted}
use Rattle.stitch_laws.proofs.StitchAccount.{count-accounts, call-accounts}
use Rattle.account.specs.Demand3.{StitchAccounted, StitchingAccounted, StitchCallsAccounted, Demand3}
use Rattle.account.proofs.Grids.{grids-accounted, grid-calls-accounted}
use Rattle.account.proofs.Expansion.{one-expanded, one-call-expanded, many-expanded, many-calls-expanded}

-- ---- stitching
stitched : (list : List ℕ) (is : Lent) (count : ℕ) → Accounted list is count → StitchAccounted list is count
unfolding members_of
stitched list is count a =
    let b = a.account in
    let n = length (peaks_in list) in
    record {
      records = a.records;
      column = omega (arith, a.column, peaks-length list (count_in list));
      owned = λ p h. (b.owned p h, places-has (λ q. eqb (owner_at is.owners q) (owner_at is.owners p)) (up_to n) p (upto-has n p h) (eq-eqb (owner_at is.owners p) (owner_at is.owners p) (omega arith)));
      no_other = λ p k m. sym (eqb-true (owner_at is.owners p) k (places-only (λ q. eqb (owner_at is.owners q) k) (up_to n) p m).1);
      some = b.some;
      lows = b.lows;
      highs = b.highs;
      identity = b.identity;
      identities = b.distinct;
    }

stitching-accounted : StitchingAccounted
stitching-accounted told list params was is count a = stitched list is count (count-accounts told list params was is count a)

stitch-calls-accounted : StitchCallsAccounted
stitch-calls-accounted told list params was is r a z = stitched list is _ (call-accounts told list params was is r a z)

-- ---- all three
pub demand3 : Demand3
demand3 =
    record {
      grids = grids-accounted;
      grid-calls = grid-calls-accounted;
      stitching = stitching-accounted;
      stitch-calls = stitch-calls-accounted;
      expansion = one-expanded;
      expansion-calls = one-call-expanded;
      expansions = many-expanded;
      expansions-calls = many-calls-expanded;
    }
