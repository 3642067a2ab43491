-- The time at a place of a time axis, which has one time a frame, and axes that do not fall. A place is given in frames, with a
-- fraction: 2.5 lies in the middle between the frames 2 and 3. Every operation is rounded once, in this order, so that the time
-- at a place can lie an ulp outside of the times of the two frames.
use Rattle.std.specs.Prelude.{Bool, true, not, cond, ◌&&◌, List, [], ◌∷◌, ℕ, ◌+◌, ◌-◌, min, eqb, length, Float}
use Rattle.std.specs.Float.Ieee.{lt, le}
use Rattle.numeric.specs.Arith.{◌⊕◌, ◌⊖◌, ◌⊗◌, 𝟎, 𝟏, index_f, at}
use Rattle.numeric.specs.Numeric.{cast_f}

-- at the share f of the way from frame j to the next; behind the last frame stands the last one again
unfoldable pub time_between : List Float → ℕ → Float → Float
time_between t j f = (𝟏 ⊖ f) ⊗ at t j ⊕ f ⊗ at t (min (j + 1) (length t - 1))

-- at the place x: the first time at or before the first frame, the last one at or behind the last frame; 0 on an empty axis
unfoldable pub time_at : List Float → Float → Float
time_at t x =
    let last = length t - 1 in
    let j = min (cast_f x) last in
    cond (eqb (length t) 0) 𝟎 (cond (le x 𝟎) (at t 0) (cond (le (index_f last) x) (at t last) (time_between t j (x ⊖ index_f j))))

-- ---- number 7

-- no time lies below the one before it; equal ones may follow each other
unfoldable pub never_falls_from : Float → List Float → Bool
never_falls_from s [] = true
never_falls_from s (t ∷ ts) = not (lt t s) && never_falls_from t ts

unfoldable pub never_falls : List Float → Bool
never_falls [] = true
never_falls (t ∷ ts) = never_falls_from t ts
