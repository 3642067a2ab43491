-- The fallback's peak of a window, placed in the run, and peaks as they are written.
use Rattle.std.specs.Prelude.{Option, Some, None, ◌≡◌, List, [], ◌∷◌, ◌++◌, ℕ, ◌+◌, ◌*◌, length, drop, Float}
use Rattle.row_record.specs.declared.ImPeak1D.{ImPeak1D}
use Rattle.rt_record.specs.RtRecord.{rt_size, rt_words}
use Rattle.rt_record.specs.declared.RtPeak1D.{RtPeak1D}
use Rattle.rt_record.specs.declared.RtApex.{RtApex}
use Rattle.expand_placed.specs.Placed.{placed}
use Rattle.rt_fallback.specs.Fallback.{fallback_of}

-- the apex of the fallback's peak, if there is one
unfoldable pub apexes_in : Option RtPeak1D → List RtApex
apexes_in None = []
apexes_in (Some p) = p.apex ∷ []

-- apexes of the trace of n frames from lo on as retention peaks of p, with identities from `id` on
unfoldable pub placed_all : ℕ → ℕ → List ℕ → ImPeak1D → List RtApex → ℕ → List RtPeak1D
placed_all lo n ids p [] id = []
placed_all lo n ids p (a ∷ more) id = placed lo n ids p a id ∷ placed_all lo n ids p more (id + 1)

-- The fallback's peak of the trace x of the frames from lo on. The fallback gets the trace of the window but the times and frame numbers
-- of the whole run, as in the Rust, so that its seconds are those of frames from the start of the run.
unfoldable pub fallback_peaks : List Float → ℕ → List ℕ → List Float → ImPeak1D → Float → ℕ → List RtPeak1D
fallback_peaks x lo ids times p frac id = placed_all lo (length x) ids p (apexes_in (fallback_of x ids times p frac id)) id

-- the words of retention peaks, one after the other
unfoldable pub peak_words : List RtPeak1D → List ℕ
peak_words [] = []
peak_words (p ∷ ps) = rt_words p ++ peak_words ps

-- peaks that were written to the front of a list, n of them
pub record Put (ps : List RtPeak1D) (was : List ℕ) (n : ℕ) (is : List ℕ) : Type 0 where
  pub count : n ≡ length ps
  pub words : is ≡ peak_words ps ++ drop (n * rt_size) was
