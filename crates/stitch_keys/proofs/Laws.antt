-- Keys in a buffer.
use mathlib.Core.Path.{◌≡◌, refl, sym, ◌∙◌}
use mathlib.Core.Bool.{Bool, true, false}
use mathlib.Core.List.{List, ◌++◌}
use Prim.Native.Nat.{ℕ, ◌+◌, ◌-◌, ◌*◌, ◌/◌, ◌<◌, ◌≤◌}
use native.Mathlib.Omega.{arith}
use native.Mathlib.Nat.{add-mul, div-eq_of_lt-le, le-div_iff_mul-le}
use native.Mathlib.Numerals.{add-one}
use borrow.Author.Tests.{ltb-true, ltb-false, eq-eqb, ne_eqb}
use lib.Dec.{ltb, eqb}
use lib.ListN.{length, take, drop}
use borrow.Rule.Slice.PartMut.{put_mid}
use Rattle.row_record.specs.Record.{peak_at}
use Rattle.row_record.proofs.Laws.{put-part}
use Rattle.numeric.proofs.Lists.{fill-behind}
use Rattle.stitch_peaks.specs.PeakList.{peaks_of}
use Rattle.stitch_peaks.proofs.PeakListLaws.{peaks-length}
use Rattle.stitch_keys.specs.declared.KeyRule.{KeyRule}
use Rattle.stitch_keys.specs.Keys.{key_of, width_of, key_table}
use Rattle.stitch_keys.proofs.KeysLaws.{table-length, table-one}

-- Which of the intervals of w numbers has x, where the k-th starts at k * w: seen without a division.
module _ (k w x : ℕ) (some : 0 < w) where
  next_start : (k + 1) * w ≡ k * w + w
  next_start = add-mul k 1 w ∙ (omega arith)

  pub from_start : k * w ≤ x → ltb (x - k * w) w ≡ eqb k (x / w)
  from_start h = go (ltb (x - k * w) w) refl
    where
      go : (t : Bool) → ltb (x - k * w) w ≡ t → t ≡ eqb k (x / w)
      go true e = sym (eq-eqb k (x / w) (sym (div-eq_of_lt-le w h (rw next_start (omega (arith, ltb-true (x - k * w) w e))))))
      go false e =
          let far : k + 1 ≤ x / w = (le-div_iff_mul-le some).1 (rw next_start (omega (arith, ltb-false (x - k * w) w e))) in
          sym (ne_eqb k (x / w) (λ (d : k ≡ x / w). omega arith))

module _ (rule : KeyRule) (words : List ℕ) where
  -- an empty table
  pub table_none : (d : List ℕ) → d ≡ key_table rule (peaks_of words 0) ++ drop 0 d
  unfolding key_table peaks_of
  table_none d = refl

  -- the key of one more record, written behind the table, and how long the table is then
  pub table_step : (out d last : List ℕ) (k w a b : ℕ) → width_of rule ≡ w → a ≡ k * w → b ≡ a + w → out ≡ key_table rule (peaks_of words k) ++ drop a d
      → last ≡ key_of rule (peak_at words k) ++ drop w (take (length out - a) (drop a out))
      → put_mid a (length out - a) out last ≡ key_table rule (peaks_of words (k + 1)) ++ drop b d
  unfolding peaks_of
  table_step out d last k w a b f g h e l =
      let n : length (key_table rule (peaks_of words k)) ≡ a = table-length rule (peaks_of words k) ∙ rw (peaks-length words k, f) (sym g) in
      put-part out (key_of rule (peak_at words k)) last a w l ∙ fill-behind (key_table rule (peaks_of words k)) (key_of rule (peak_at words k)) d out a w n e
      ∙ rw (add-one, h, table-one rule (peaks_of words k) (peak_at words k))
