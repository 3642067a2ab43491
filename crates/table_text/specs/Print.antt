-- The text that is printed: numbers, words and the line of a peak, as bytes.
use Rattle.std.specs.Prelude.{cond, List, [], ◌∷◌, ◌++◌, ℕ, zero, suc, ◌+◌, ◌/◌, ◌%◌, ltb, length, take, drop}
use Prim.Native.Char.{code}
use Prim.Native.String.{String}
use Rattle.row_record.specs.Record.{word}
use Rattle.row_record.specs.declared.ImPeak1D.{ImPeak1D}

-- ---- numbers

-- the byte of a decimal digit
abbrev pub digit : ℕ → ℕ
digit d = 48 + d

-- the digits of a number, at most k of them
unfoldable pub digits_of : ℕ → ℕ → List ℕ
digits_of zero n = []
digits_of (suc k) n = cond (ltb n 10) (digit n ∷ []) (digits_of k (n / 10) ++ (digit (n % 10) ∷ []))

-- a 32-bit number without leading zeros: it has at most 10 digits
abbrev pub decimal : ℕ → List ℕ
decimal n = digits_of 10 n

-- ---- words

-- the byte of a hexadecimal digit: 0 to 9, a to f
unfoldable pub hex_digit : ℕ → ℕ
hex_digit d = cond (ltb d 10) (48 + d) (87 + d)

-- the eight digits of a 32-bit word, the highest first
abbrev pub hex8 : ℕ → List ℕ
hex8 w =
    hex_digit (w / 0x1000_0000 % 16) ∷ hex_digit (w / 0x100_0000 % 16) ∷ hex_digit (w / 0x10_0000 % 16) ∷ hex_digit (w / 0x1_0000 % 16)
    ∷ hex_digit (w / 0x1000 % 16) ∷ hex_digit (w / 0x100 % 16) ∷ hex_digit (w / 0x10 % 16) ∷ hex_digit (w % 16) ∷ []

-- ---- text

-- the bytes of a text of ASCII characters
abbrev pub ascii : String → List ℕ
ascii String.[] = []
ascii (String.◌∷◌ c s) = code c ∷ ascii s

-- the heading and what a bad line is answered with
abbrev pub heading : List ℕ
heading = ascii "tof_row,scan,left,right,width_scans,apex_raw,prominence,area_raw,subscan\r\n"

abbrev pub refusal : List ℕ
refusal = ascii "refused,10\r\n"

-- ---- the line of a peak

-- a field that another follows, and the last
abbrev pub followed : List ℕ → List ℕ
followed f = f ++ ascii ","

abbrev pub ended : List ℕ → List ℕ
ended f = f ++ ascii "\r\n"

-- the first five fields, and the last four
unfoldable pub places_of : ImPeak1D → List ℕ
places_of p =
    followed (decimal p.tof_row) ++ followed (decimal p.scan) ++ followed (decimal p.left) ++ followed (decimal p.right)
    ++ followed (decimal p.width_scans)

unfoldable pub floats_of : ImPeak1D → List ℕ
floats_of p =
    followed (hex8 (word p.apex_raw)) ++ followed (hex8 (word p.prominence)) ++ followed (hex8 (word p.area_raw))
    ++ ended (hex8 (word p.subscan))

abbrev pub peak_line : ImPeak1D → List ℕ
peak_line p = places_of p ++ floats_of p

-- ---- a buffer

-- a list with another put at a place, over what stood there
unfoldable pub put_at : List ℕ → ℕ → List ℕ → List ℕ
put_at l a x = take a l ++ (x ++ drop (a + length x) l)
