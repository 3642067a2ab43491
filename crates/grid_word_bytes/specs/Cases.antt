-- A worked case, each way, by computation; it need not be read to know what is promised.
use Rattle.std.specs.Prelude.{◌≡◌, refl, [], ◌∷◌}
use Rattle.grid_word_bytes.specs.Bytes.{word_at, words_to, words_of, bytes_of}

-- eight bytes are two words, the lowest byte first
pub two-words : words_of (1 ∷ 2 ∷ 3 ∷ 4 ∷ 5 ∷ 0 ∷ 0 ∷ 0 ∷ []) ≡ 0x0403_0201 ∷ 5 ∷ []
unfolding words_to word_at
two-words = refl

pub eight-bytes : bytes_of (0x0403_0201 ∷ 5 ∷ []) ≡ 1 ∷ 2 ∷ 3 ∷ 4 ∷ 5 ∷ 0 ∷ 0 ∷ 0 ∷ []
unfolding bytes_of
eight-bytes = refl
