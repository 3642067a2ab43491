-- What a stored line should say: a call of stitching and its answer, as words. They are: how many words the list has; how many are lent
-- for the stitched list, the owners, order, groups, keys and merged records; the eight parameters, floats as bit patterns; the list;
-- then the answer.
use Rattle.std.specs.Prelude.{Bool, true, false, cond, ◌&&◌, List, [], ◌∷◌, ◌++◌, ℕ, ◌+◌, min, eqb, length, get_or, take, drop}
use Rattle.std.specs.Float.{binary32}
use Rattle.std.specs.Float.Ieee.{of_bits}
use Rattle.stitch_peaks.specs.PeakList.{list_words}
use Rattle.stitch_matching.specs.declared.StitchParams.{StitchParams}
use Rattle.stitch_passes.specs.Stitching.{stitched, owners_of}
use Rattle.stitch.specs.declared.numbers.Rooms.{Rooms}
use Rattle.stitch.specs.StitchNumber.{peaks_in, stitch_number}
use Rattle.c_grid_stitch.specs.Stitching.{are_flags, params_of}

-- ---- the call

-- a word of a line; past its end every word is 0
abbrev pub word : List ℕ → ℕ → ℕ
word line k = get_or line k 0

abbrev pub list_in : List ℕ → List ℕ
list_in line = take (word line 0) (drop 15 line)

-- the words that are lent, of which this program has 4,096 for each list
abbrev pub room : ℕ
room = 4096

abbrev pub rooms_in : List ℕ → Rooms
rooms_in line =
    record {
      out = min (word line 1) room;
      owners = min (word line 2) room;
      order = min (word line 3) room;
      groups = min (word line 4) room;
      keys = min (word line 5) room;
      merged = min (word line 6) room;
    }

abbrev pub params_in : List ℕ → StitchParams
params_in line =
    params_of (word line 7) (word line 8) (of_bits binary32 (word line 9)) (word line 10) (word line 11) (word line 12)
    (of_bits binary32 (word line 13)) (word line 14)

abbrev pub told_in : List ℕ → Bool
told_in line = are_flags (word line 11) (word line 14)

-- ---- the answer

-- the number and the count of stitched peaks, and where the number is 0 their words and the owners
unfoldable pub answer_to : List ℕ → Rooms → List ℕ
answer_to line rooms =
    let number = stitch_number (told_in line) (list_in line) (params_in line) rooms in
    let peaks = peaks_in (list_in line) in
    let found = stitched (params_in line) peaks in
    cond (eqb number 0) ((0 ∷ length found ∷ []) ++ (list_words found ++ owners_of (params_in line) peaks)) (number ∷ 0 ∷ [])

-- two lists of words are the same
unfoldable pub same : List ℕ → List ℕ → Bool
same [] [] = true
same [] (y ∷ ys) = false
same (x ∷ xs) [] = false
same (x ∷ xs) (y ∷ ys) = eqb x y && same xs ys

-- the line has the answer that it should have
unfoldable pub agrees_in : List ℕ → Rooms → Bool
agrees_in line rooms = same (drop (15 + word line 0) line) (answer_to line rooms)

abbrev pub agrees : List ℕ → Bool
agrees line = agrees_in line (rooms_in line)
