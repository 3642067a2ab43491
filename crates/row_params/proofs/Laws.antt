-- Laws of rising lists, and of numbers up to a limit.
use mathlib.Core.Path.{◌≡◌, refl, sym, ◌∙◌}
use mathlib.Core.Bool.{true, ◌&&◌, Bool}
use mathlib.Core.List.{List, [], ◌∷◌}
use Prim.Native.Nat.{ℕ, zero, suc, ◌≤◌}
use native.Mathlib.Omega.{arith}
use lib.Dec.{ltb, leb}
use lib.ListN.{get_or}
use Rattle.row_params.specs.Params.{all_neighbours, rising_from, rising, all_up_to}
use borrow.Author.Tests.{leb-true}
use Rattle.std.proofs.lemmas.Bool.{and_parts}
use Rattle.std.specs.List.{fold, zip}
use Rattle.std.proofs.Math.Bool.{and-true, and_assoc}

-- a list of numbers up to a limit has no higher one at any place
pub up-to-at : (limit : ℕ) (l : List ℕ) (k : ℕ) → all_up_to limit l ≡ true → get_or l k 0 ≤ limit
unfolding all_up_to
up-to-at limit [] k h = omega arith
up-to-at limit (s ∷ ss) zero h = leb-true s limit (and_parts (leb s limit) _ h).0
up-to-at limit (s ∷ ss) (suc k) h = up-to-at limit ss k (and_parts (leb s limit) _ h).1

-- each number beside the one before it
rising-from-fold : (s : ℕ) (l : List ℕ) (all : Bool) → fold (λ (all : Bool) (p : ℕ × ℕ). all && ltb p.0 p.1) all (zip (s ∷ l) l) ≡ (all && rising_from s l)
unfolding rising_from
rising-from-fold s [] all = sym (and-true all)
rising-from-fold s (t ∷ l) all = rising-from-fold t l (all && ltb s t) ∙ and_assoc all (ltb s t) (rising_from t l)

pub rising-fold : (l : List ℕ) → all_neighbours ltb l ≡ rising l
unfolding rising
rising-fold [] = refl
rising-fold (s ∷ l) = rising-from-fold s l true
