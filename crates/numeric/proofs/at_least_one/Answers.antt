use Rattle.std.proofs.Common.{◌≡◌, Bool, true, false, cond, sym, refl}
use lib.Ieee.{Float, lt, le, is_nan, of_bits}
use Rattle.numeric.specs.Arith.{𝟏}
use Rattle.numeric.specs.Numeric.{max_f}
use Rattle.numeric.proofs.Order.{not-le, max-above}
use Rattle.numeric.proofs.at_least_one.Goals as goal

one-is-number : is_nan 𝟏 ≡ false
unfolding is_nan of_bits
one-is-number = refl

low : (u : Float) → le 𝟏 u ≡ false → 𝟏 ≡ max_f u 𝟏
unfolding max_f
low u h = go (is_nan u) refl
  where
    go : (b : Bool) → is_nan u ≡ b → 𝟏 ≡ cond b 𝟏 (cond (lt u 𝟏) 𝟏 u)
    go true e = refl
    go false e = rw (not-le 𝟏 u one-is-number e h)

pub returns-then-x : goal.returns-then-x
returns-then-x c = sym (max-above c.args.x 𝟏 c.if-x.true)

pub returns-else-x : goal.returns-else-x
returns-else-x c = low c.args.x c.if-x.false
