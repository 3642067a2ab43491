-- The byte rule: a list of words is a list of bytes, four a word, the lowest first; a float is the word of its bit pattern.
use Rattle.std.specs.Prelude.{List, [], ◌∷◌, ◌++◌, map, ℕ, zero, suc, ◌+◌, ◌*◌, ◌/◌, ◌%◌, length, get_or, take, drop, Float}
use Rattle.std.specs.Float.{binary32}
use Rattle.std.specs.Float.Ieee.{of_bits}

-- the word at place k
unfoldable pub word_at : List ℕ → ℕ → ℕ
word_at b k =
    get_or b (k * 4) 0 + 256 * get_or b (k * 4 + 1) 0 + 65536 * get_or b (k * 4 + 2) 0 + 16777216 * get_or b (k * 4 + 3) 0

-- the first n words
unfoldable pub words_to : List ℕ → ℕ → List ℕ
words_to b zero = []
words_to b (suc n) = words_to b n ++ (word_at b n ∷ [])

-- all words, and all floats, of bytes
abbrev pub words_of : List ℕ → List ℕ
words_of b = words_to b (length b / 4)

unfoldable pub floats_of : List ℕ → List Float
floats_of b = map (of_bits binary32) (words_of b)

-- the bytes of words
abbrev pub bytes_of_word : ℕ → List ℕ
bytes_of_word w = w % 256 ∷ w / 256 % 256 ∷ w / 65536 % 256 ∷ w / 16777216 % 256 ∷ []

unfoldable pub bytes_of : List ℕ → List ℕ
bytes_of [] = []
bytes_of (w ∷ ws) = bytes_of_word w ++ bytes_of ws

-- the bytes with the word w at place k
unfoldable pub with_word : List ℕ → ℕ → ℕ → List ℕ
with_word b k w = take (k * 4) b ++ (bytes_of_word w ++ drop (k * 4 + 4) b)
