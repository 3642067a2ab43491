-- Each row of a grid that no number refuses is one that no number refuses, so that its records are sound.
use mathlib.Core.Path.{◌≡◌, refl, sym, ap, ◌∙◌}
use mathlib.Core.Bool.{true, false}
use mathlib.Core.List.{List, [], ◌++◌, append-nil}
use Prim.Native.Nat.{ℕ, zero, suc, ◌+◌, ◌-◌, ◌*◌, ◌≤◌, ◌<◌}
use native.Mathlib.Nat.{le_of_eq, mul-le-mul_right, one-mul, add-mul}
use native.Mathlib.Omega.{arith}
use borrow.Author.Tests.{not-false, le-leb, le-ltb, eq-eqb}
use lib.Dec.{eqb}
use lib.ListN.{length, drop, length-drop}
use lib.Seq.{length-take-le}
use lib.Ieee.{Float}
use Rattle.refusal.specs.Refusal.{first_of, ascending_from}
use Rattle.refusal.proofs.RefusalLaws.{applies_for, off-for}
use Rattle.refusal.proofs.Bools.{both, all4, all5}
use Rattle.limits.specs.Limits.{max_reading, max_height, max_mobility, max_scan, max_samples, last_row, identities}
use Rattle.numeric.specs.Numeric.{all_in_range}
use Rattle.numeric.specs.Plain.{AllFit}
use Rattle.numeric.proofs.Patterns.{all-wider, all_take, all_drop}
use Rattle.row_record.specs.Record.{size, sound, all_sound, peak_at}
use Rattle.row_params.specs.Params.{most_peaks, lent_or_empty, sound_params, sound_bounds, all_up_to, rising}
use Rattle.row_smoothed.proofs.Laws.{searched-length, searched-fits, searched-in-range}
use Rattle.row.specs.Row.{peak_of}
use Rattle.row.specs.RowNumber.{same_lengths, sound_readings, sound_values, sound_axis, row_number}
use Rattle.row_laws.specs.RowRecords.{nth}
use Rattle.row_laws.specs.RowSound as row
use Rattle.row_laws.proofs.RowRecords.{one_of}
use Rattle.row_laws.proofs.RowSound.{peaks-sound}
use Rattle.tof_scale.specs.Tof.{row_place}
use Rattle.tof_scale.proofs.TofLaws.{row-held}
use Rattle.grid_rows.specs.Grid.{Grid, row_of, searched_of, listed_in, count_to, words_to}
use Rattle.grid.specs.GridNumber.{grid_checks, grid_number}
use Rattle.grid_rows.specs.Steps.{Ready}
use Rattle.grid.proofs.Laws as grids
use Rattle.grid_laws.specs.GridRecords.{Placed}
use Rattle.grid_laws.specs.GridSound.{Accepted, GridSound, FrontSound}
use Rattle.grid_laws.proofs.GridRecords.{all_placed, row_fits, rows_whole}

-- ---- what the checks of a grid say
record Parts (g : Grid) (rows room : ℕ) : Type 0 where
  ready : Ready g 0 rows room
  short : g.cols ≤ max_samples
  few : rows ≤ last_row + 1
  table : lent_or_empty g.cols g.mobility ≡ true
  params : sound_params g.params ≡ true
  mobility : all_in_range max_mobility g.mobility ≡ true
  frames : sound_bounds g.bounds ≡ true
  scans : all_up_to max_scan g.scans ≡ true
  rises : rising g.scans ≡ true

parts : (g : Grid) (rows room scratch : ℕ) → grid_number g rows room scratch ≡ 0 → Parts g rows room
unfolding grid_number ascending_from
parts g rows room scratch e =
    let none : (n : ℕ) → applies_for n (grid_checks g rows room scratch) ≡ false = λ n. off-for n (grid_checks g rows room scratch) refl e in
    let l = all4 (eqb (length g.used) (rows * g.cols)) (not-false _ (none 1)) in
    let v = all5 (sound_params g.params) (not-false _ (none 4)) in
    let s = grids.sizes-held rows g.cols (none 2) in
    record {
      ready = (grids.accepted g rows room scratch e).ready;
      short = s.1;
      few = s.0;
      table = l.2;
      params = v.0;
      mobility = v.1;
      frames = v.2;
      scans = (both (all_up_to max_scan g.scans) (not-false _ (none 5))).0;
      rises = not-false _ (none 7);
    }

-- ---- a row of it
module _ (g : Grid) (rows room scratch : ℕ) (A : Accepted g rows room scratch) (r : ℕ) (inside : r < rows) where
  P : Parts g rows room
  P = parts g rows room scratch A.no_number

  abbrev y : List Float
  y = searched_of g r

  abbrev z : List Float
  z = row_of g r

  raw-length : length z ≡ g.cols
  raw-length =
      let b : (r + 1) * g.cols ≤ rows * g.cols = mul-le-mul_right g.cols (omega arith) in
      let s : (r + 1) * g.cols ≡ r * g.cols + 1 * g.cols = add-mul r 1 g.cols in
      length-take-le g.cols (drop (r * g.cols) g.used) (rw length-drop (omega (arith, P.ready.readings)))

  searched-long : length y ≡ g.cols
  searched-long = searched-length g.weights z ∙ raw-length

  raw-fits : AllFit z
  raw-fits = row_fits g r A.readings-fit

  raw-range : all_in_range max_reading z ≡ true
  raw-range = all_take max_reading g.cols (drop (r * g.cols) g.used) (all_drop max_reading (r * g.cols) g.used P.ready.ranged)

  one-length : same_lengths y z g.mobility g.scans ≡ true
  unfolding same_lengths
  one-length =
      rw (
        eq-eqb (length z) (length y) (raw-length ∙ sym searched-long),
        eq-eqb (length g.scans) (length y) (P.ready.scans ∙ sym searched-long),
        searched-long,
      ) P.table

  readings : sound_readings y z ≡ true
  unfolding sound_readings
  readings =
      rw (
        all-wider max_reading max_height y (omega arith) (searched-in-range g.weights z P.ready.weighed A.weights-fit raw-fits raw-range),
        raw-range,
      )

  -- one row of them asks for no more than all rows do
  most : most_peaks g.cols ≤ (rows - 0) * most_peaks g.cols
  most =
      let m = most_peaks g.cols in
      let b : 1 * m ≤ (rows - 0) * m = mul-le-mul_right m (omega arith) in omega (arith, one-mul m)

  values : sound_values (length y) (row_place g.scale r) g.bounds g.mobility g.params g.first ≡ true
  unfolding sound_values
  values =
      rw (
        P.params,
        P.mobility,
        P.frames,
        le-leb r last_row (omega (arith, P.few)),
        searched-long,
        le-leb (g.first + most_peaks g.cols) identities (omega (arith, most, P.ready.ids)),
      )

  axis : sound_axis (row_place g.scale r) g.scans ≡ true
  unfolding sound_axis
  axis = rw (P.scans, row-held g.scale P.ready.scale r (omega (arith, P.ready.bins)))

  pub row_number_lem : row_number y z (row_place g.scale r) g.bounds g.mobility g.params g.scans g.first room ≡ 0
  unfolding row_number first_of
  row_number_lem =
      rw (
        one-length,
        readings,
        values,
        axis,
        P.rises,
        searched-long,
        le-ltb max_samples g.cols P.short,
        le-ltb room (most_peaks g.cols * size) (omega (arith, most, P.ready.words)),
      )

  pub row-accepted : row.Accepted y z (row_place g.scale r) g.bounds g.mobility g.params g.scans g.first room
  row-accepted =
      record {
        no_number = row_number_lem;
        bounds = omega arith;
        smoothed-fits = searched-fits g.weights z raw-fits;
        raw-fits = raw-fits;
        mobility-fits = A.mobility-fits;
      }

  listed-sound : (k id : ℕ) → k < length (listed_in g r)
      → sound (peak_of (row_place g.scale r) g.bounds g.mobility g.scans y z (nth (listed_in g r) k) id) ≡ true
  unfolding listed_in
  listed-sound k id l =
      peaks-sound y z (row_place g.scale r) g.bounds g.mobility g.params g.scans g.first room row-accepted _ id
      (one_of (listed_in g r) (length (listed_in g r) - 1 - k) (omega arith))

-- ---- all rows
module _ (g : Grid) (rows room scratch : ℕ) (A : Accepted g rows room scratch) (rest : List ℕ) where
  place-sound : (j : ℕ) → Placed g rows j → sound (peak_at (words_to g rows ++ rest) j) ≡ true
  place-sound j c =
      ap (λ (n : ℕ). sound (peak_at (words_to g rows ++ rest) n)) c.place
      ∙ ap sound (rows_whole g rows A.readings-fit A.mobility-fits rest c.row c.k c.among-rows c.among-listed)
      ∙ listed-sound g rows room scratch A c.row c.among-rows c.k _ c.among-listed

  first-sound : (n : ℕ) → n ≤ count_to g rows → all_sound (words_to g rows ++ rest) n ≡ true
  unfolding all_sound
  first-sound zero h = refl
  first-sound (suc n) h = rw (first-sound n (omega arith), place-sound n (all_placed g rows n (omega arith)))

pub front-sound : FrontSound
front-sound g rows room scratch A rest = first-sound g rows room scratch A rest (count_to g rows) (le_of_eq refl)

pub grid-sound : GridSound
grid-sound g rows room scratch A = rw append-nil at (front-sound g rows room scratch A [])
