-- What answers say is as strong as which answers they are.
use mathlib.Core.Path.{◌≡◌, refl, ◌∙◌, ap}
use mathlib.Core.Bool.{Bool, true, false, cond}
use mathlib.Core.Option.{none, some}
use Prim.Native.Nat.{ℕ}
use borrow.Author.Tests.{ne_eqb}
use lib.Dec.{eqb}
use Rattle.refusal.specs.Answers.{answer_by}
use Rattle.refusal.specs.AnswersLaws.{from_option, from_says, Told}

-- the two ways to answer, for a function that has the number n and values w
pub says-number : {A : Type 0} {n k : ℕ} (v : A) → n ≡ k → (n ≡ 0 → ⊥) → record { number = n; values = none } ≡ answer_by k v
says-number {n = n} v e h = rw (← e, ne_eqb n 0 h)

pub says-values : {A : Type 0} {n k : ℕ} (v : A) {w : A} → n ≡ k → n ≡ 0 → w ≡ v → record { number = 0; values = some w } ≡ answer_by k v
says-values v e h g = rw (← e, h, g)

-- an answer that is told from the others by what it says
pub which : {A R : Type 0} → Told A R
which accepted refused says again r n v e = again r ∙ ap (from_says accepted refused) e ∙ go (eqb n 0)
  where
    go : (z : Bool) → from_option accepted (refused n) (cond z (some v) none) ≡ cond z (accepted v) (refused n)
    go true = refl
    go false = refl
