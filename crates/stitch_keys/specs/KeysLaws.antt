-- What holds of keys and of the table that has them.
use Rattle.std.specs.Prelude.{◌≡◌, List, ◌++◌, ℕ, ◌<◌, length}
use Rattle.row_record.specs.declared.ImPeak1D.{ImPeak1D}
use Rattle.stitch_peaks.specs.PeakList.{nth}
use Rattle.sort_digits.specs.Sorted.{row, sorted_by, up_to}
use Rattle.stitch_keys.specs.declared.KeyRule.{KeyRule}
use Rattle.stitch_keys.specs.Keys.{key_of, width_of, key_table}

-- every key of a rule has as many numbers: `key-width` in proofs/KeysLaws.antt
abbrev pub KeyWidth : Type 0
KeyWidth = (rule : KeyRule) (p : ImPeak1D) → length (key_of rule p) ≡ width_of rule

-- row k of the table is the key of the k-th peak, whatever follows the table: `table-row`
abbrev pub TableRow : Type 0
TableRow = (rule : KeyRule) (ps : List ImPeak1D) (rest : List ℕ) (k : ℕ) → k < length ps → row (key_table rule ps ++ rest) (width_of rule) k ≡ key_of rule (nth ps k)

-- so sorting the rows sorts the peaks: `table-sorts`
abbrev pub TableSorts : Type 0
TableSorts =
    (rule : KeyRule) (ps : List ImPeak1D) (rest : List ℕ)
    → sorted_by (row (key_table rule ps ++ rest) (width_of rule)) (up_to (length ps)) ≡ sorted_by (λ k. key_of rule (nth ps k)) (up_to (length ps))
