-- One row of scratch is enough.
use mathlib.Core.Path.{◌≡◌, refl, sym, ◌∙◌}
use mathlib.Core.Bool.{Bool, true, false, ◌||◌}
use Prim.Native.Nat.{ℕ, ◌≤◌}
use native.Mathlib.Omega.{arith}
use borrow.Author.Tests.{le-ltb}
use lib.Dec.{ltb}
use lib.ListN.{length}
use Rattle.refusal.specs.Refusal.{refuses}
use Rattle.refusal.proofs.Bools.{clash}
use Rattle.refusal.proofs.NumberedLaws.{which}
use Rattle.grid_rows.specs.Grid.{Grid, count_to}
use Rattle.grid.specs.GridNumber.{grid_checks, grid_number}
use Rattle.grid.specs.OneRow.{OneRowEnough, SameAnswer}
use Rattle.grid.proofs.GridNumberLaws.{number-lowest}

-- the list has one check of the number 21
of-21 : (g : Grid) (rows room scratch : ℕ) → refuses 21 (grid_checks g rows room scratch) ≡ true → ltb scratch g.cols ≡ true
unfolding refuses
of-21 g rows room scratch h = go (ltb scratch g.cols) h
  where
    go : (b : Bool) → (b || false) ≡ true → b ≡ true
    go true k = refl
    go false k = k

same-number : (g : Grid) (rows room s t : ℕ) → g.cols ≤ s → g.cols ≤ t → grid_number g rows room s ≡ grid_number g rows room t
unfolding grid_number
same-number g rows room s t p q = rw (le-ltb s g.cols p, le-ltb t g.cols q) refl

pub one-row-enough : OneRowEnough
one-row-enough g rows room scratch p = (same-number g rows room scratch g.cols p (omega arith), never)
  where
    never : grid_number g rows room scratch ≡ 21 → ⊥
    never e =
        let l = number-lowest g rows room scratch (omega (arith, e)) in
        clash (ltb scratch g.cols) (of-21 g rows room scratch (rw e at l.applies)) (le-ltb scratch g.cols p)

pub same-answer : SameAnswer
same-answer g rows out₀ one other s₀ s t₀ t a b p q x y =
    let e = same-number g rows (length out₀) (length s₀) (length t₀) p q in (
      which ℕ a _ (count_to g rows) x.answered ∙ rw e (sym (which ℕ b _ (count_to g rows) y.answered)),
      x.words ∙ rw e (sym y.words),
    )
