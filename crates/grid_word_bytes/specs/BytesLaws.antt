-- Nothing is lost between words and bytes, either way.
use Rattle.std.specs.Prelude.{◌≡◌, List, ℕ, ◌%◌, ◌^◌, ◌<◌, length, get_or}
use Rattle.grid_word_bytes.specs.Bytes.{words_of, bytes_of}

-- every number of a list is below a limit
abbrev pub AllBelow : ℕ → List ℕ → Type 0
AllBelow limit l = (i : ℕ) → i < length l → get_or l i 0 < limit

-- words below 2^32, written as bytes, are read as they were: `words_back` in proofs/BytesLaws.antt
abbrev pub WordsBack : Type 0
WordsBack = (ws : List ℕ) → AllBelow (2 ^ 32) ws → words_of (bytes_of ws) ≡ ws

-- bytes below 256 of whole words, read as words, are the bytes of those words: `bytes_back`
abbrev pub BytesBack : Type 0
BytesBack = (b : List ℕ) → length b % 4 ≡ 0 → AllBelow 256 b → bytes_of (words_of b) ≡ b
