-- Which answer it is that says so, and the two ways to answer.
use mathlib.Core.Path.{◌≡◌, refl, sym, ◌∙◌, ap}
use mathlib.Core.Bool.{Bool, true, false, cond}
use mathlib.Core.Option.{none, some}
use Prim.Native.Nat.{ℕ, ◌<◌}
use native.Mathlib.Omega.{arith}
use borrow.Author.Tests.{ne_eqb}
use lib.Dec.{eqb}
use Rattle.std.specs.Prelude.{Result, Ok, Err, IsErrAnd}
use Rattle.refusal.specs.declared.Refusal.{Refusal}
use Rattle.refusal.specs.declared.Refusal.TheVariants.{Lengths, Size, Reading, Value, Axis, Weights, Order, Identity, Record, Text, Room, Scratch, Scale, Index}
use Rattle.refusal.specs.Answers.{Says, answer_by}
use Rattle.refusal.specs.Numbered.{number_of, number_in, says}
use Rattle.refusal.specs.NumberedLaws.{refusal_of, NumberTells, NoneIsZero, Told}
use Rattle.refusal.specs.AnswersLaws.{from_says}
use Rattle.refusal.proofs.AnswersLaws.{says-number, says-values}
use Rattle.refusal.proofs.AnswersLaws.{which as which_by}

pub refusal_of-number_of : NumberTells
refusal_of-number_of Lengths = refl
refusal_of-number_of Size = refl
refusal_of-number_of Reading = refl
refusal_of-number_of Value = refl
refusal_of-number_of Axis = refl
refusal_of-number_of Weights = refl
refusal_of-number_of Order = refl
refusal_of-number_of Identity = refl
refusal_of-number_of Record = refl
refusal_of-number_of Text = refl
refusal_of-number_of Room = refl
refusal_of-number_of Scratch = refl
refusal_of-number_of Scale = refl
refusal_of-number_of Index = refl

pub number_of-positive : NoneIsZero
number_of-positive Lengths z = omega arith
number_of-positive Size z = omega arith
number_of-positive Reading z = omega arith
number_of-positive Value z = omega arith
number_of-positive Axis z = omega arith
number_of-positive Weights z = omega arith
number_of-positive Order z = omega arith
number_of-positive Identity z = omega arith
number_of-positive Record z = omega arith
number_of-positive Text z = omega arith
number_of-positive Room z = omega arith
number_of-positive Scratch z = omega arith
number_of-positive Scale z = omega arith
number_of-positive Index z = omega arith

-- it fits the low six bits of a word
pub number_of-small : (e : Refusal) → number_of e < 64
number_of-small Lengths = omega arith
number_of-small Size = omega arith
number_of-small Reading = omega arith
number_of-small Value = omega arith
number_of-small Axis = omega arith
number_of-small Weights = omega arith
number_of-small Order = omega arith
number_of-small Identity = omega arith
number_of-small Record = omega arith
number_of-small Text = omega arith
number_of-small Room = omega arith
number_of-small Scratch = omega arith
number_of-small Scale = omega arith
number_of-small Index = omega arith

-- what a `?` returns
pub err-is : {A : Type 0} {r : Result A Refusal} {e : Refusal} → IsErrAnd r (λ x. x ≡ e) → r ≡ Err e
err-is {r = Ok v} h = absurd h
err-is {r = Err x} h = ap (λ (y : Refusal). Err y) h

-- the two ways to answer where the number k applies
pub says-err : {A : Type 0} (e : Refusal) {k : ℕ} (v : A) → number_of e ≡ k → says (Err e) ≡ answer_by k v
says-err e v h = says-number v h (number_of-positive e)

pub says-ok : {A : Type 0} {k : ℕ} (v : A) {w : A} → 0 ≡ k → w ≡ v → says (Ok w) ≡ answer_by k v
says-ok v h g = says-values v h refl g

again : {A : Type 0} (r : Result A Refusal) → r ≡ from_says Ok (λ n. Err (refusal_of n)) (says r)
again (Ok v) = refl
again (Err e) = ap Err (sym (refusal_of-number_of e))

pub which : (A : Type 0) → Told A
which A r n v e = which_by Ok (λ n. Err (refusal_of n)) says again r n v e
