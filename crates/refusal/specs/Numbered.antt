-- The numbers of document 01, and what an answer says by them.
use Rattle.std.specs.Prelude.{◌≡◌, ℕ, Result, Ok, Err, MatchResult}
use Rattle.std.proofs.Math.Option.{none, some}
use Rattle.refusal.specs.Answers.{Says}
use Rattle.refusal.specs.declared.Refusal.{Refusal}
use Rattle.refusal.specs.declared.Refusal.TheVariants.{Lengths, Size, Reading, Value, Axis, Weights, Order, Identity, Record, Text, Room, Scratch, Scale, Index}
use Rattle.refusal.specs.declared.UnknownNumber.{UnknownNumber}

abbrev pub number_of : Refusal → ℕ
number_of Lengths = 1
number_of Size = 2
number_of Reading = 3
number_of Value = 4
number_of Axis = 5
number_of Weights = 6
number_of Order = 7
number_of Identity = 8
number_of Record = 9
number_of Text = 10
number_of Room = 20
number_of Scratch = 21
number_of Scale = 22
number_of Index = 23

-- the result is the refusal with this number, or says which number none has
abbrev pub Named : ℕ → Result Refusal UnknownNumber → Type 0
Named n r = MatchResult r (λ e. number_of e ≡ n) (λ e. (e.0 ≡ n) × ((x : Refusal) → number_of x ≡ n → ⊥))

-- the number that is answered, 0 for none
abbrev pub number_in : {A : Type 0} → Result A Refusal → ℕ
number_in (Ok v) = 0
number_in (Err e) = number_of e

-- what an answer says
abbrev pub says : {A : Type 0} → Result A Refusal → Says A
says (Ok v) = record { number = 0; values = some v }
says (Err e) = record { number = number_of e; values = none }
