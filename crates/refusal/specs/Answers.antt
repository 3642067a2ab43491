-- What an answer says: document 01's number and values.
use Rattle.std.specs.Prelude.{cond, ℕ, eqb}
use Rattle.std.proofs.Math.Option.{Option, none, some}

-- the number that applies, 0 for none, and the values, which only an input has to which no number applies
pub record Says (A : Type 0) : Type 0 where
  pub number : ℕ
  pub values : Option A

-- what is answered to an input with the number n, which has the values v if that is 0
abbrev pub answer_by : {A : Type 0} → ℕ → A → Says A
answer_by n v = record { number = n; values = cond (eqb n 0) (some v) none }
