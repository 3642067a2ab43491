-- The centre of a row.
use mathlib.Core.Path.{◌≡◌, sym, ap, ◌∙◌}
use mathlib.Core.Bool.{true, false, true≢false}
use Prim.Native.Nat.{ℕ, ◌+◌, ◌*◌, ◌/◌, ◌<◌}
use native.Mathlib.Nat.{add-mul, mul_comm, mul-div-mul_right}
use native.Mathlib.Omega.{arith}
use lib.Ieee.{Float, nan, inf, fin, binary32, up, down, round, of_int}
use lib.Ieee.Fits.{down_pos}
use lib.Ieee.Exact.{HasValue}
use Rattle.numeric.specs.Numeric.{cast_f}
use Rattle.numeric.specs.Arith.{index_f}
use Rattle.rounding.specs.Rounding.{round_f}
use Rattle.rounding.proofs.Guess.{cast-index}
use Rattle.tof_scale.specs.Tof.{edge, center_f}
use Rattle.tof_scale.proofs.Exact.{center-exact}
use Rattle.tof_scale.proofs.TofLaws.{edges-held, upper-edge}
use Rattle.grid_laws.specs.GridCenter.{CenterIsRusts}

-- half a whole number, rounded: a half goes up
half-rounds : (x : Float) (k : ℕ) → HasValue x false k 2 → round_f x ≡ index_f ((k + 1) / 2)
unfolding round_f of_int
half-rounds nan k v = elim v [ ]
half-rounds (inf _) k v = elim v [ ]
half-rounds (fin true m e) k v = absurd (true≢false v.0)
half-rounds (fin false m e) k v =
    let a = m * up e in
    let d = down e in
    let q : 0 < d = down_pos e in
    let w : a * 2 ≡ k * d = v.1 in
    let one : (k + 1) * d ≡ k * d + 1 * d = add-mul k 1 d in
    let n : a + a + d ≡ (k + 1) * d = omega arith in
    ap (λ (z : ℕ). round binary32 false z 1) (ap (λ (z : ℕ). z / (d * 2)) n ∙ ap (λ (z : ℕ). (k + 1) * d / z) (mul_comm d 2) ∙ mul-div-mul_right (k + 1) 2 q)

pub center-is-rusts : CenterIsRusts
center-is-rusts s h i b =
    let u = edges-held s h i b in
    let e = upper-edge s i in
    let c : (edge s i + edge s (i + 1) + 1) / 2 ≡ edge s i + (s.tof_step + 1) / 2 = omega arith in
    sym (ap cast_f (half-rounds (center_f s i) (edge s i + edge s (i + 1)) (center-exact s h i b)) ∙ cast-index ((edge s i + edge s (i + 1) + 1) / 2) (omega arith) ∙ c)
