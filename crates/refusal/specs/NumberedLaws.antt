-- Which answer it is that says so.
use Rattle.std.specs.Prelude.{◌≡◌, cond, ℕ, eqb, Result, Ok, Err}
use Rattle.refusal.specs.Answers.{answer_by}
use Rattle.refusal.specs.declared.Refusal.{Refusal}
use Rattle.refusal.specs.declared.Refusal.TheVariants.{Lengths, Size, Reading, Value, Axis, Weights, Order, Identity, Record, Text, Room, Scratch, Scale, Index}
use Rattle.refusal.specs.Numbered.{number_of, says}

-- the refusal that a number names, and one with another number where it names none
abbrev pub refusal_of : ℕ → Refusal
refusal_of n =
    cond (eqb n 1) Lengths
    (cond (eqb n 2) Size
    (cond (eqb n 3) Reading
    (cond (eqb n 4) Value
    (cond (eqb n 5) Axis
    (cond (eqb n 6) Weights
    (cond (eqb n 7) Order
    (cond (eqb n 8) Identity
    (cond (eqb n 9) Record
    (cond (eqb n 20) Room
    (cond (eqb n 21) Scratch
    (cond (eqb n 22) Scale
    (cond (eqb n 23) Index Text))))))))))))

-- a refusal is told from the others by its number: `refusal_of-number_of` in proofs/NumberedLaws.antt
abbrev pub NumberTells : Type 0
NumberTells = (e : Refusal) → refusal_of (number_of e) ≡ e

-- no refusal has the number 0, which says that none applies: `number_of-positive`
abbrev pub NoneIsZero : Type 0
NoneIsZero = (e : Refusal) → number_of e ≡ 0 → ⊥

-- an answer is told from the others by what it says: `which`
abbrev pub Told : Type 0 → Type 0
Told A = (r : Result A Refusal) (n : ℕ) (v : A) → says r ≡ answer_by n v → r ≡ cond (eqb n 0) (Ok v) (Err (refusal_of n))
