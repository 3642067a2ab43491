-- Fields that may be missing, as values that may be missing.
use mathlib.Core.Path.{◌≡◌, refl, sym}
use mathlib.Core.Bool.{Bool, true, false, cond}
use Prim.Native.Nat.{ℕ, ◌%◌}
use native.Mathlib.Omega.{arith}
use borrow.Author.Tests.{eqb-true, eqb-false}
use lib.Dec.{eqb}
use mir.Val.{bool_byte}
use Rattle.std.specs.Prelude.{is_some, unwrap_or}
use Rattle.std.specs.Bool.{then_some}

pub some_then : {A : Type 0} (b : Bool) (x : A) → is_some (then_some b x) ≡ b
some_then true x = refl
some_then false x = refl

pub unwrap_then : {A : Type 0} (b : Bool) (x none : A) → unwrap_or (then_some b x) none ≡ cond b x none
unwrap_then true x none = refl
unwrap_then false x none = refl

-- a bit is 1 where it is set, and else 0
pub bit-is : (n : ℕ) → bool_byte (eqb (n % 2) 1) ≡ n % 2
bit-is n = go (eqb (n % 2) 1) refl
  where
    go : (b : Bool) → eqb (n % 2) 1 ≡ b → bool_byte b ≡ n % 2
    go true e = sym (eqb-true (n % 2) 1 e)
    go false e = let k = eqb-false (n % 2) 1 e in omega (arith, k)
