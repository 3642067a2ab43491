-- What the C entry of grid detection answers: 64 times the count of peaks, and the number.
use Rattle.std.specs.Prelude.{◌≡◌, Bool, cond, not, ◌&&◌, ◌||◌, List, [], ◌∷◌, ◌++◌, ℕ, ◌*◌, ◌/◌, ◌%◌, ◌<◌, ltb, eqb, length, drop, Float}
use Rattle.refusal.specs.Refusal.{Check, first_of, Lowest}
use Rattle.row_params.specs.declared.ImDetectParams.{ImDetectParams}
use Rattle.row_params.specs.declared.FrameBounds.{FrameBounds}
use Rattle.std.specs.Prelude.{Option}
use Rattle.std.specs.Prelude.{None, Some}
use Rattle.tof_scale.specs.declared.TofScale.{TofScale}
use Rattle.row.specs.Written.{stride}
use Rattle.grid_rows.specs.Grid.{Grid, count_to, words_to}
use Rattle.grid.specs.GridNumber.{grid_checks}
use Rattle.grid_word_bytes.specs.Bytes.{bytes_of}
use Rattle.grid_byte_rows.specs.AsBytes.{as_bytes}

-- ---- the number

-- checks of which the one with the number n applies for a further reason
unfoldable pub also : ℕ → Bool → List Check → List Check
also n reason [] = []
also n reason (c ∷ cs) = cond (eqb c.number n) (record { number = n; applies = reason || c.applies } ∷ cs) (c ∷ also n reason cs)

-- The checks of the slice form, which lends a scratch that is long enough, with two more reasons: 1 where bytes are no whole words, 4
-- where the flag of the window group is neither 0 nor 1.
abbrev pub entry_checks : Bool → ℕ → Grid → ℕ → ℕ → List Check
entry_checks whole flag g rows room = also 1 (not whole) (also 4 (ltb 1 flag) (grid_checks g rows room g.cols))

unfoldable pub entry_number : Bool → ℕ → Grid → ℕ → ℕ → ℕ
entry_number whole flag g rows room = first_of (entry_checks whole flag g rows room)

-- it is the lowest that applies: `entry-lowest` in proofs/Laws.antt
abbrev pub EntryLowest : Type 0
EntryLowest =
    (whole : Bool) (flag : ℕ) (g : Grid) (rows room : ℕ) → 0 < entry_number whole flag g rows room
    → Lowest (entry_checks whole flag g rows room) (entry_number whole flag g rows room)

abbrev pub entry_answer : ℕ → ℕ → ℕ
entry_answer number count = cond (eqb number 0) (count * 64) number

-- ---- what the arguments mean

-- the bytes of the readings that are worked on: the raw ones where there are any, else the smoothed ones; the others are not
-- looked at
abbrev pub used_bytes : List ℕ → List ℕ → List ℕ
used_bytes raw smooth = cond (eqb (length raw) 0) smooth raw

-- the lengths of the five byte lists that are looked at are those of whole words
abbrev pub all_whole : ℕ → ℕ → ℕ → ℕ → ℕ → Bool
all_whole used scans mobility weights out =
    eqb (used % 4) 0 && eqb (scans % 4) 0 && eqb (mobility % 4) 0 && eqb (weights % 4) 0 && eqb (out % 4) 0

-- the window group: missing where its flag is 0
abbrev pub group_of : ℕ → ℕ → Option ℕ
group_of flag group = cond (eqb flag 0) None (Some group)

abbrev pub bounds_of : ℕ → ℕ → ℕ → ℕ → ℕ → ℕ → FrameBounds
bounds_of rt_lo rt_hi id_lo id_hi flag group =
    record { rt_lo = rt_lo; rt_hi = rt_hi; frame_id_lo = id_lo; frame_id_hi = id_hi; window_group = group_of flag group }

abbrev pub scale_of : ℕ → ℕ → ℕ → ℕ → TofScale
scale_of least most step bins = record { tof_min = least; tof_max = most; tof_step = step; num_bins = bins }

abbrev pub params_of : Float → ℕ → ℕ → ImDetectParams
params_of prom distance width = record { min_prom = prom; min_distance_scans = distance; min_width_scans = width }

-- ---- the answer

-- The answer and the bytes that are left. Accepted, the records of all peaks stand at the front; refused, the bytes are as they
-- were. `whole` says that the lists are whole words.
pub record Answered (whole : Bool) (flag : ℕ) (g : Grid) (rows : ℕ) (out₀ out : List ℕ) (r : ℕ) : Type 0 where
  pub answer : r ≡ entry_answer (entry_number whole flag g rows (length out₀ / 4)) (count_to g rows)
  pub bytes : out ≡ cond (eqb (entry_number whole flag g rows (length out₀ / 4)) 0) (bytes_of (words_to g rows) ++ drop (count_to g rows * stride as_bytes) out₀) out₀
