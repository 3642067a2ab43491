-- Parts of a line.
use Rattle.std.specs.Prelude.{◌≡◌, ℕ, List, [], ◌∷◌, Bool, true, ◌&&◌, ◌==◌, drop, get_or, Float, from_bits}
use Rattle.test_hex_lines.specs.declared.parts.Line.{Line}
use Rattle.std.specs.Float.{binary32}
use Rattle.std.specs.Float.Ieee.{to_bits}

-- a line without its first n words, and without the floats at their places
abbrev pub IsLeft : ℕ → Line → Line → Type 0
IsLeft n before after = (after.words.now ≡ drop n before.words.now) × (after.floats.now ≡ drop n before.floats.now)

-- a word as a float
abbrev pub float_in : List ℕ → ℕ → Float
float_in words k = from_bits binary32 (get_or words k 0)

-- the bit pattern of a float
abbrev pub pattern_in : List Float → ℕ → ℕ
pattern_in floats k = to_bits binary32 (get_or floats k (from_bits binary32 0))

-- every word of a list is one word
unfoldable pub all_are : ℕ → List ℕ → Bool
all_are w [] = true
all_are w (x ∷ xs) = x == w && all_are w xs
