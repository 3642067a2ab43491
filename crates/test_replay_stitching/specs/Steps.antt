-- What the steps of the replay answer.
use Rattle.std.specs.Prelude.{Bool, cond, ◌&&◌, List, [], ◌∷◌, ℕ, ◌+◌, ◌*◌, ◌/◌, ◌%◌, eqb, take, drop}
use Rattle.row_record.specs.Record.{size}
use Rattle.test_replay_stitching.specs.Replay.{same}

-- how many owners there are: as many as peaks, where the entry answers r, which is a count, to a list of so many words; else none
abbrev pub owners_by : ℕ → ℕ → ℕ
owners_by r words = cond (eqb (r % 64) 0) (words / size) 0

-- the rest of a line has the number and the count of the answer r, the words of as many records, and m owners
unfoldable pub has_in : List ℕ → ℕ → List ℕ → List ℕ → ℕ → Bool
has_in rest r out owners m =
    let k = r / 64 * size in
    same (take 2 rest) (r % 64 ∷ r / 64 % 4294967296 ∷ []) && same (take k (drop 2 rest)) (take k out) && same (drop (2 + k) rest) (take m owners)
