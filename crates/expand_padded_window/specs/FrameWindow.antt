-- The frames over which a mobility peak is followed.
use Rattle.std.specs.Prelude.{Option, Some, None, cond, ◌&&◌, List, [], ◌∷◌, ℕ, suc, ◌+◌, ◌-◌, min, ltb, eqb, length, get_or}
use Rattle.expand_padded_window.specs.declared.Frames.{Frames}

-- how many frame numbers, from the first on, are below a number
unfoldable pub before : ℕ → List ℕ → ℕ
before id [] = 0
before id (x ∷ xs) = cond (ltb x id) (suc (before id xs)) 0

-- the frame with a number, by its place in the run, whose frame numbers rise
unfoldable pub frame_with : List ℕ → ℕ → Option ℕ
frame_with ids id = let k = before id ids in cond (ltb k (length ids) && eqb (get_or ids k 0) id) (Some k) None

-- frames lo to hi of n, widened on both sides by `pad`, or by n - 1 if that is fewer, and cut to the run
unfoldable pub widened : ℕ → ℕ → ℕ → ℕ → Frames
widened n pad lo hi = let p = min pad (n - 1) in record { lo = lo - p; hi = min (hi + p) (n - 1) }

-- the window of two frames, if both are there
unfoldable pub between : ℕ → ℕ → Option ℕ → Option ℕ → Option Frames
between n pad None last = None
between n pad (Some lo) None = None
between n pad (Some lo) (Some hi) = Some (widened n pad lo hi)

-- The padded frame window (document 01) of a mobility peak with the frame numbers lo and hi, ends included: none if one of them is
-- not found.
unfoldable pub padded_window : List ℕ → ℕ → ℕ → ℕ → Option Frames
padded_window ids lo hi pad = between (length ids) pad (frame_with ids lo) (frame_with ids hi)
