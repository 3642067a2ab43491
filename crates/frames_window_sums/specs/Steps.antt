-- What the searches of a sum find.
use Rattle.std.specs.Prelude.{List, ℕ, ◌+◌, ◌<◌, get_or}
use Rattle.frames_index.specs.FrameIndex.{Index}
use Rattle.frames_sums.specs.Steps.{FirstAt}

-- r is the first place of frame f whose bin is x at least, or the frame's end where there is none
abbrev pub FirstIn : Index → ℕ → ℕ → ℕ → Type 0
FirstIn ix f x r = FirstAt ix.bins (get_or ix.starts f 0) (get_or ix.starts (f + 1) 0) x r

-- of n frames from f on, each one's place stands at its own place of a list
abbrev pub Placed : Index → ℕ → ℕ → ℕ → List ℕ → Type 0
Placed ix f n x near = (k : ℕ) → k < n → FirstIn ix (f + k) x (get_or near (f + k) 0)
