-- What may be relied on where a list was stitched: the stitched records and the owner column, as they stand in the lists that were lent,
-- account for the peaks of the list. It follows from the contract of the entry alone, for every list, all parameters and all lists that
-- are lent. Proved in proofs/StitchAccount.antt.
use Rattle.std.specs.Prelude.{◌≡◌, Bool, Result, Ok, List, ℕ, ◌*◌, ◌/◌, ◌%◌, ◌≤◌, length}
use Rattle.refusal.specs.declared.Refusal.{Refusal}
use Rattle.row_record.specs.Record.{size}
use Rattle.stitch_matching.specs.declared.StitchParams.{StitchParams}
use Rattle.stitch_passes.specs.Account.{StitchedAccount}
use Rattle.stitch.specs.StitchNumber.{count_in, peaks_in}
use Rattle.stitch.specs.Answer.{Lent, number_for, Answered}
use Rattle.c_grid_stitch.specs.Stitching.{Answered as CallAnswered}

-- So many stitched peaks, whose records stand at the front of `out`, and the owner column at the front of `owners` account for the peaks of
-- the list.
pub record Accounted (list : List ℕ) (is : Lent) (count : ℕ) : Type 0 where
  -- all records and all owners are there, so that nothing is read past an end
  pub records : count * size ≤ length is.out
  pub column : count_in list ≤ length is.owners
  -- each peak of the list has one owner among the stitched ones; each of these has a member; its bounds are its members' extremes, and its
  -- identity is the least of theirs; no two have one identity
  pub account : StitchedAccount (peaks_in list) count is.out is.owners

-- the answer is a count, and so many stitched peaks account for the list
pub record Counted (list : List ℕ) (is : Lent) (answer : Result ℕ Refusal) : Type 0 where
  pub count : ℕ
  pub answered : answer ≡ Ok count
  pub accounted : Accounted list is count

-- So it is where no number applies. The entry has `true` for `told`: `accepted-accounted` in proofs/StitchAccount.antt
abbrev pub AcceptedAccounted : Type 0
AcceptedAccounted =
    (told : Bool) (list : List ℕ) (params : StitchParams) (was is : Lent) (answer : Result ℕ Refusal) → Answered told list params was is answer
    → number_for told list params was ≡ 0 → Counted list is answer

-- And so it is where the answer is a count, which is what a caller sees: `count-accounts`
abbrev pub CountAccounts : Type 0
CountAccounts =
    (told : Bool) (list : List ℕ) (params : StitchParams) (was is : Lent) (count : ℕ) → Answered told list params was is (Ok count)
    → Accounted list is count

-- The same of the C entry, from its contract. It answers 64 times the count, or a number, all of which are below 64, so that a caller tells a
-- count by the remainder: `call-accounts`
abbrev pub CallAccounts : Type 0
CallAccounts =
    (told : Bool) (list : List ℕ) (params : StitchParams) (was is : Lent) (r : ℕ) → CallAnswered told list params was is r → r % 64 ≡ 0
    → Accounted list is (r / 64)
