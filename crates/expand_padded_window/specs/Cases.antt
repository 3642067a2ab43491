-- Worked cases, by computation; they need not be read to know what is promised.
use Rattle.std.specs.Prelude.{◌≡◌, refl, List, [], ◌∷◌, ℕ, Some, None}
use Rattle.expand_padded_window.specs.FrameWindow.{before, frame_with, widened, between, padded_window}

abbrev ids : List ℕ
ids = 10 ∷ 12 ∷ 20 ∷ 21 ∷ 30 ∷ []

-- frames 12 to 20 with one more on either side; with more than there are; those at the ends of the run
inner : padded_window ids 12 20 1 ≡ Some (record { lo = 0; hi = 3 })
unfolding padded_window between widened frame_with before
inner = refl

whole : padded_window ids 12 20 65535 ≡ Some (record { lo = 0; hi = 4 })
unfolding padded_window between widened frame_with before
whole = refl

ends : padded_window ids 10 30 2 ≡ Some (record { lo = 0; hi = 4 })
unfolding padded_window between widened frame_with before
ends = refl

one : padded_window ids 21 21 0 ≡ Some (record { lo = 3; hi = 3 })
unfolding padded_window between widened frame_with before
one = refl

-- a number that is not there: between two, past the last, and in a run of no frames
missing : padded_window ids 11 20 1 ≡ None
unfolding padded_window between widened frame_with before
missing = refl

past : padded_window ids 12 31 1 ≡ None
unfolding padded_window between widened frame_with before
past = refl

nothing : padded_window [] 0 0 1 ≡ None
unfolding padded_window between widened frame_with before
nothing = refl
