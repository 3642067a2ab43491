-- What the number that checks give says of them, where their numbers ascend.
use Rattle.std.specs.Prelude.{◌≡◌, true, List, ℕ, ◌<◌}
use Rattle.refusal.specs.Refusal.{Check, first_of, clear, ascending_from, Lowest}

-- a number above 0 is the lowest that applies: `lowest` in proofs/RefusalLaws.antt
abbrev pub IsLowest : Type 0
IsLowest = (m : ℕ) (cs : List Check) → ascending_from m cs ≡ true → 0 < first_of cs → Lowest cs (first_of cs)

-- and the lowest that applies is the number: `lowest-is`
abbrev pub LowestIs : Type 0
LowestIs = (cs : List Check) (n : ℕ) → ascending_from 0 cs ≡ true → Lowest cs n → first_of cs ≡ n

-- it is 0 where none applies: `none-applies`
abbrev pub ZeroForNone : Type 0
ZeroForNone = (cs : List Check) → clear cs ≡ true → first_of cs ≡ 0

-- and only there: `none_at_zero`
abbrev pub NoneAtZero : Type 0
NoneAtZero = (m : ℕ) (cs : List Check) → ascending_from m cs ≡ true → first_of cs ≡ 0 → clear cs ≡ true
