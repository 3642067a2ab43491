-- What the steps of stitching leave in lent lists.
use Rattle.std.specs.Prelude.{◌≡◌, ℕ, ◌+◌, ◌*◌, ◌≤◌, length, take, drop}
use mathlib.Core.List.{List, [], ◌∷◌, ◌++◌, map, Memᴰ}
use Rattle.row_record.specs.Record.{size}
use Rattle.row_record.specs.declared.ImPeak1D.{ImPeak1D}
use Rattle.stitch_peaks.specs.PeakList.{nth, list_words}
use Rattle.sort_digits.specs.Sorted.{up_to, sorted_by}
use Rattle.stitch_matching.specs.declared.StitchParams.{StitchParams}
use Rattle.stitch_keys.specs.declared.KeyRule.{KeyRule}
use Rattle.stitch_keys.specs.Keys.{key_of}
use Rattle.stitch_grouping.specs.Grouping.{pass_groups, pass_peaks, number_in}
use Rattle.stitch_passes.specs.Stitching.{stitched, owners_of}

-- the records at places of a list, one after the other
unfoldable pub records_at : List ℕ → List ℕ → List ℕ
records_at list [] = []
records_at list (p ∷ qs) = take size (drop (p * size) list) ++ records_at list qs

-- every place is that of a record of the list
abbrev pub Within : List ℕ → List ℕ → Type 0
Within list order = (p : ℕ) → Memᴰ p order → p * size + size ≤ length list

-- the places of peaks in the order of the words of their keys from `words` on
abbrev pub rest_order : KeyRule → ℕ → List ImPeak1D → List ℕ
rest_order rule words ps = sorted_by (λ k. drop words (key_of rule (nth ps k))) (up_to (length ps))

-- What a pass over the peaks ps leaves: how many groups there are, their merged peaks at the front of `out`, the number of each peak's
-- group at the front of `column`; of `keys` no more is used than a record a peak has.
pub record Passed (rule : KeyRule) (params : StitchParams) (ps : List ImPeak1D) (column₀ keys₀ out₀ : List ℕ) (count : ℕ) (column keys out : List ℕ) : Type 0 where
  pub counted : count ≡ length (pass_groups rule params ps)
  pub records : out ≡ list_words (pass_peaks rule params ps) ++ drop (count * size) out₀
  pub numbers : column ≡ map (number_in (pass_groups rule params ps)) (up_to (length ps)) ++ drop (length ps) column₀
  pub rest : drop (length ps * size) keys ≡ drop (length ps * size) keys₀

-- What stitching the peaks ps leaves: how many stitched peaks there are, their records at the front of `out`, and the owner column at the
-- front of `owners`.
pub record Stitched (params : StitchParams) (ps : List ImPeak1D) (out₀ owners₀ : List ℕ) (count : ℕ) (out owners : List ℕ) : Type 0 where
  pub counted : count ≡ length (stitched params ps)
  pub records : out ≡ list_words (stitched params ps) ++ drop (count * size) out₀
  pub column : owners ≡ owners_of params ps ++ drop (length ps) owners₀
