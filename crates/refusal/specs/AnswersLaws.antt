-- What answers say is as strong as which answers they are.
use Rattle.std.specs.Prelude.{◌≡◌, cond, ℕ, eqb}
use Rattle.std.proofs.Math.Option.{Option, none, some}
use Rattle.refusal.specs.Answers.{Says, answer_by}

-- by cases, where there is a value and where there is none
abbrev pub from_option : {A R : Type 0} → (A → R) → R → Option A → R
from_option with_values other none = other
from_option with_values other (some v) = with_values v

abbrev pub from_says : {A R : Type 0} → (A → R) → (ℕ → R) → Says A → R
from_says with_values with_number s = from_option with_values (with_number s.number) s.values

-- an answer that can be made again from what it says is told by that: `which` in proofs/AnswersLaws.antt
abbrev pub Told : (A R : Type 0) → Type 0
Told A R =
    (accepted : A → R) (refused : ℕ → R) (says : R → Says A) → ((r : R) → r ≡ from_says accepted refused (says r))
    → (r : R) (n : ℕ) (v : A) → says r ≡ answer_by n v → r ≡ cond (eqb n 0) (accepted v) (refused n)
