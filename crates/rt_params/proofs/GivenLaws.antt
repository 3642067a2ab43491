-- Thresholds and parameters that are handed over as numbers.
use mathlib.Core.Path.{◌≡◌, refl}
use mathlib.Core.Bool.{Bool, true, false, ◌&&◌}
use Prim.Native.Nat.{ℕ, ◌<◌}
use native.Mathlib.Omega.{arith}
use borrow.Author.Tests.{ne_eqb}
use lib.Ieee.{Float, neg, to_bits, of_bits}
use Rattle.numeric.specs.Numeric.{in_range}
use Rattle.rt_params.specs.Modes.{sound_mode}
use Rattle.rt_params.specs.Expand.{sound_expand, count, seconds, is_fraction}
use Rattle.rt_params.specs.Given.{threshold_of, UnknownKind}

unsound-mode : (kind : ℕ) (v : Float) → 1 < kind → sound_mode (threshold_of kind v) ≡ false
unfolding sound_mode in_range neg to_bits of_bits
unsound-mode kind v h = rw (ne_eqb kind 0 (λ e. omega arith), ne_eqb kind 1 (λ e. omega arith))

third : (a b c d e f g h : Bool) → c ≡ false → (a && b && c && d && e && f && g && h) ≡ false
third false b c d e f g h z = refl
third true false c d e f g h z = refl
third true true c d e f g h z = rw z

pub unknown-kind : UnknownKind
unfolding sound_expand
unknown-kind bins sigma kind prom sep width frames fraction pad h =
    third (count bins) (seconds sigma) (sound_mode (threshold_of kind prom)) (seconds sep) (seconds width) (count frames) (is_fraction fraction) (count pad)
    (unsound-mode kind prom h)
