-- The text that the printed table is made of and made from: RFC 4180 lines of unquoted whole numbers, as bytes.
use Rattle.std.specs.Prelude.{Option, Some, None}
use Rattle.row_params.specs.declared.ImDetectParams.{ImDetectParams}
use Rattle.std.specs.Prelude.{Bool, true, cond, ◌&&◌, List, [], ◌∷◌, map, ℕ, suc, ◌+◌, ◌-◌, ◌*◌, leb, eqb, length, drop, Float}
use Rattle.limits.specs.Limits.{max_count}
use Rattle.numeric.specs.Arith.{index_f}
use Rattle.table_text.specs.Sizes.{max_number, max_fields}

-- ---- a line's fields

abbrev pub comma : ℕ
comma = 44

-- a byte in front of the first field
abbrev pub onto : ℕ → List (List ℕ) → List (List ℕ)
onto b [] = (b ∷ []) ∷ []
onto b (f ∷ fs) = (b ∷ f) ∷ fs

-- the parts of a line between its commas: one more than there are commas
unfoldable pub fields : List ℕ → List (List ℕ)
fields [] = [] ∷ []
fields (b ∷ bs) = cond (eqb b comma) ([] ∷ fields bs) (onto b (fields bs))

-- the place of a line's first comma, or its length
unfoldable pub comma_at : List ℕ → ℕ
comma_at [] = 0
comma_at (b ∷ bs) = cond (eqb b comma) 0 (suc (comma_at bs))

-- ---- a field's number

unfoldable pub all_digits : List ℕ → Bool
all_digits [] = true
all_digits (b ∷ bs) = leb 48 b && leb b 57 && all_digits bs

-- the number that digits continue
unfoldable pub value_from : ℕ → List ℕ → ℕ
value_from v [] = v
value_from v (b ∷ bs) = value_from (v * 10 + (b - 48)) bs

abbrev pub value : List ℕ → ℕ
value f = value_from 0 f

-- a field of 1 to 8 digits whose number is not above a limit
unfoldable pub is_number : ℕ → List ℕ → Bool
is_number limit f = leb 1 (length f) && leb (length f) 8 && all_digits f && leb (value f) limit

-- what a field is as a number to a limit
abbrev pub number_text : ℕ → List ℕ → Option ℕ
number_text limit f = cond (is_number limit f) (Some (value f)) None

unfoldable pub all_numbers : ℕ → List (List ℕ) → Bool
all_numbers limit [] = true
all_numbers limit (f ∷ fs) = is_number limit f && all_numbers limit fs

-- ---- a row

-- a line that is a row: at most 4,096 whole numbers to 16,777,215
unfoldable pub is_row : List ℕ → Bool
is_row line = all_numbers max_number (fields line) && leb (length (fields line)) max_fields

-- its readings
unfoldable pub readings : List ℕ → List Float
readings line = map (λ f. index_f (value f)) (fields line)

-- what a line is as a row: the count of its fields, or bad
abbrev pub row_text : List ℕ → Option ℕ
row_text line = cond (is_row line) (Some (length (fields line))) None

-- ---- the parameters

-- three numbers: the floor, the least distance and the least width
abbrev pub params_text : Option ℕ → Option ℕ → Option ℕ → Option ImDetectParams
params_text (Some a) (Some b) (Some c) =
    Some (record { min_prom = index_f a; min_distance_scans = b; min_width_scans = c })
params_text (Some a) (Some b) None = None
params_text (Some a) None c = None
params_text None b c = None

-- exactly three fields, the floor to 16,777,215, the least distance and the least width to 65,535
unfoldable pub params_from : List (List ℕ) → Option ImDetectParams
params_from [] = None
params_from (a ∷ []) = None
params_from (a ∷ b ∷ []) = None
params_from (a ∷ b ∷ c ∷ []) = params_text (number_text max_number a) (number_text max_count b) (number_text max_count c)
params_from (a ∷ b ∷ c ∷ d ∷ fs) = None

unfoldable pub params_of : List ℕ → Option ImDetectParams
params_of line = params_from (fields line)

-- ---- where a line ends

abbrev pub lf : ℕ
lf = 10

-- the place of the first LF in a list whose first byte stands at place k
unfoldable pub lf_from : ℕ → List ℕ → Option ℕ
lf_from k [] = None
lf_from k (b ∷ bs) = cond (eqb b lf) (Some k) (lf_from (k + 1) bs)

-- the place of the first LF at a place or after it
abbrev pub next_line : List ℕ → ℕ → Option ℕ
next_line bytes from = lf_from from (drop from bytes)
