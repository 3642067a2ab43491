-- What a judge of lines says.
use Rattle.std.specs.Prelude.{◌≡◌, ℕ, Bool, List}
use Rattle.std.specs.Borrow.{Bor}
use Rattle.std.specs.Fn.{Shared, FnReturnsAt}

-- a judge says of words what `agrees` says of them
pub record Judges {F : Type 0} (g : Shared F (Bor (List ℕ) × Unit {0}) Bool) (judge : F) (agrees : List ℕ → Bool) : Type 0 where
  pub says : (words : List ℕ) (r : Bool) → FnReturnsAt g judge words r → r ≡ agrees words
