-- The area under the straight lines that join the readings, between two places x0 and x1 given in samples. Segment s runs
-- from sample s to sample s + 1. Every operation is rounded once, in this order.
use Rattle.std.specs.Prelude.{cond, not, ◌&&◌, List, [], ◌∷◌, ℕ, zero, suc, ◌+◌, ◌-◌, min, leb, ltb, eqb, length, Float}
use Rattle.std.specs.Float.Ieee.{le}
use Rattle.refusal.specs.Refusal.{Check, first_of}
use Rattle.limits.specs.Limits.{max_samples, max_reading, max_place}
use Rattle.numeric.specs.Arith.{◌⊕◌, ◌⊖◌, ◌⊗◌, 𝟎, ½, 𝟏, index_f, at}
use Rattle.numeric.specs.Numeric.{clamp_f, cast_f, in_range, all_in_range, lerp_f}

-- the height of segment s at the share t of its length
unfoldable pub height_at : List Float → ℕ → Float → Float
height_at y s t = lerp_f (at y s) (at y (s + 1)) t

-- a strip of width w between the heights p and q
unfoldable pub strip : Float → Float → Float → Float
strip p q w = ½ ⊗ (p ⊕ q) ⊗ w

-- both ends in segment s
unfoldable pub within : List Float → ℕ → Float → Float → Float
within y s x0 x1 =
    let t0 = x0 ⊖ index_f s in let t1 = x1 ⊖ index_f s in strip (height_at y s t0) (height_at y s t1) (t1 ⊖ t0)

-- from x0 to the end of its segment
unfoldable pub head : List Float → ℕ → Float → Float
head y s x0 = let t0 = x0 ⊖ index_f s in 𝟎 ⊕ strip (height_at y s t0) (at y (s + 1)) (𝟏 ⊖ t0)

-- a, and k whole segments from s on, added one after another
unfoldable pub whole : List Float → ℕ → ℕ → Float → Float
whole y zero s a = a
whole y (suc k) s a = whole y k (s + 1) (a ⊕ ½ ⊗ (at y s ⊕ at y (s + 1)))

-- a, and what lies from the start of segment s to x1. Where x1 is the last sample, s is past the last segment: nothing is
-- added, and the last segment is missing from the area unless x0 lies in it.
unfoldable pub tail : List Float → ℕ → Float → Float → Float
tail y s x1 a =
    let t1 = x1 ⊖ index_f s in cond (leb s (length y - 2)) (a ⊕ strip (at y s) (height_at y s t1) t1) a

-- from x0 in segment s0 to x1 in a later segment s1
unfoldable pub across : List Float → ℕ → ℕ → Float → Float → Float
across y s0 s1 x0 x1 = tail y s1 x1 (whole y (min s1 (length y - 2) - (s0 + 1)) (s0 + 1) (head y s0 x0))

-- between two places within the row
unfoldable pub between : List Float → Float → Float → Float
between y x0 x1 =
    let s0 = min (cast_f x0) (length y - 2) in
    cond (le x1 x0) 𝟎 (cond (eqb (cast_f x0) (cast_f x1)) (within y s0 x0 x1) (across y s0 (cast_f x1) x0 x1))

-- the area between two places, each held to the row; fewer than two samples have none
unfoldable pub area_f : List Float → Float → Float → Float
area_f y x0 x1 =
    let last = index_f (length y - 1) in cond (ltb (length y) 2) 𝟎 (between y (clamp_f x0 𝟎 last) (clamp_f x1 𝟎 last))

-- ---- the entry

-- its checks: 2: more than 16,384 samples; 3: a reading not from 0 to 2^32; 4: a place not from 0 to 65,535
abbrev pub area_checks : List Float → Float → Float → List Check
area_checks y x0 x1 =
    record { number = 2; applies = ltb max_samples (length y) }
    ∷ record { number = 3; applies = not (all_in_range max_reading y) }
    ∷ record { number = 4; applies = not (in_range max_place x0 && in_range max_place x1) }
    ∷ []

unfoldable pub area_number : List Float → Float → Float → ℕ
area_number y x0 x1 = first_of (area_checks y x0 x1)
