-- The weights of one peak or more come to 1 at least: a mean is divided by their sum, and the scan sigma of a merged peak is there
-- exactly where a member has one.
use mathlib.Core.Path.{◌≡◌, refl}
use mathlib.Core.Bool.{Bool, true, false, cond}
use mathlib.Core.List.{List, [], ◌∷◌, foldl}
use Prim.Native.Nat.{◌≤◌, ◌<◌, ◌+◌, ◌*◌}
use native.Mathlib.Omega.{arith}
use native.Mathlib.Nat.{mul_comm, mul-le-mul_right, mul-pos}
use borrow.Author.Tests.{ltb-false}
use lib.Ieee.{Float, nan, inf, fin, binary32, up, down, lt, le, eq, is_nan, of_bits, add, sum, round}
use lib.Ieee.Bits.{is_true}
use lib.Ieee.Fits.{down_pos}
use lib.Ieee.Order.{round_mono}
use Rattle.numeric.specs.Arith.{◌⊕◌, 𝟎, 𝟏}
use Rattle.numeric.specs.Numeric.{max_f}
use Rattle.refusal.proofs.Bools.{clash}
use Rattle.numeric.proofs.Order.{le_not_lt, not-lt, lt-le-trans}
use Rattle.row_record.specs.Record.{has_sigma}
use Rattle.row_record.specs.declared.ImPeak1D.{ImPeak1D}
use Rattle.stitch_peaks.specs.Extremes.{is_any}
use Rattle.stitch_merging.specs.Merging.{summed, weight, total_weight, having}
use Rattle.stitch_merging.specs.MergingWeights.{TotalAbove, MeanIs, SigmaThere}

-- a clear sign, and with it a value of 1 at least
abbrev Clear : Float → Type 0
Clear nan = ⊥
Clear (inf s) = s ≡ false
Clear (fin s m e) = s ≡ false

abbrev OneUp : Float → Type 0
OneUp nan = ⊥
OneUp (inf s) = s ≡ false
OneUp (fin s m e) = (s ≡ false) × (down e ≤ m * up e)

one_up : (x : Float) → le 𝟏 x ≡ true → OneUp x
unfolding lt le eq of_bits
one_up nan h = clash false h refl
one_up (inf true) h = clash false h refl
one_up (inf false) h = refl
one_up (fin true m e) h = absurd (omega (arith, ltb-false 0 (m * up e * 1 + 1 * 1 * down e) (le_not_lt (fin true m e) 𝟏 h), down_pos e))
one_up (fin false m e) h = (refl, omega (arith, ltb-false (m * up e * 1) (1 * 1 * down e) (le_not_lt (fin false m e) 𝟏 h)))

clear : (x : Float) → OneUp x → Clear x
clear nan h = h
clear (inf s) h = h
clear (fin s m e) h = h.0

add-up : (s w : Float) → Clear s → OneUp w → le 𝟏 (s ⊕ w) ≡ true
unfolding add sum lt le eq of_bits round
add-up nan w c o = absurd c
add-up (inf true) w c o = clash true refl c
add-up (inf false) nan c o = absurd o
add-up (inf false) (inf true) c o = clash true refl o
add-up (inf false) (inf false) c o = refl
add-up (inf false) (fin t n d) c o = refl
add-up (fin s m e) nan c o = absurd o
add-up (fin s m e) (inf true) c o = clash true refl o
add-up (fin s m e) (inf false) c o = refl
add-up (fin true m e) (fin t n d) c o = clash true refl c
add-up (fin false m e) (fin true n d) c o = clash true refl o.0
add-up (fin false m e) (fin false n d) c o =
    let low : down d * down e ≤ n * up d * down e = mul-le-mul_right (down e) o.1 in
    let both : 0 < down e * down d = mul-pos (down_pos e) (down_pos d) in
    is_true _ (round_mono binary32 1 1 (m * up e * down d + n * up d * down e) (down e * down d) (omega arith) both (omega (arith, mul_comm (down e) (down d))))

weight-up : (p : ImPeak1D) → le 𝟏 (weight p) ≡ true
unfolding weight max_f lt le eq is_nan of_bits
weight-up p = go p.area_raw (is_nan p.area_raw) (lt p.area_raw 𝟏) refl refl
  where
    go : (a : Float) (n l : Bool) → is_nan a ≡ n → lt a 𝟏 ≡ l → le 𝟏 (cond n 𝟏 (cond l 𝟏 a)) ≡ true
    go a true l hn hl = refl
    go a false true hn hl = refl
    go a false false hn hl = not-lt a 𝟏 hn refl hl

from-clear : (s : Float) (p : ImPeak1D) (ps : List ImPeak1D) → Clear s → le 𝟏 (foldl (λ so q. so ⊕ weight q) s (p ∷ ps)) ≡ true
from-clear s p [] c = add-up s (weight p) c (one_up (weight p) (weight-up p))
from-clear s p (q ∷ ps) c =
    let next = add-up s (weight p) c (one_up (weight p) (weight-up p)) in
    from-clear (s ⊕ weight p) q ps (clear (s ⊕ weight p) (one_up (s ⊕ weight p) next))

pub total-above : TotalAbove
unfolding summed is_any lt of_bits
total-above [] h = clash false h refl
total-above (p ∷ ps) h = lt-le-trans 𝟎 𝟏 (foldl (λ so q. so ⊕ weight q) 𝟎 (p ∷ ps)) refl (from-clear 𝟎 p ps refl)

pub mean-is : MeanIs
mean-is f ps h = rw (total-above ps h)

pub sigma-there : SigmaThere
unfolding summed is_any lt of_bits
sigma-there ps = go (having has_sigma ps)
  where
    go : (l : List ImPeak1D) → lt 𝟎 (total_weight l) ≡ is_any l
    go [] = refl
    go (p ∷ l) = total-above (p ∷ l) refl
