-- Laws of the C entry.
use mathlib.Core.Path.{◌≡◌, refl, sym, ap, ◌∙◌}
use mathlib.Core.Bool.{Bool, true, false, cond, ◌&&◌, ◌||◌}
use mathlib.Core.List.{List}
use Prim.Native.Nat.{ℕ, ◌-◌, ◌*◌, ◌/◌, ◌%◌, ◌<◌}
use native.Mathlib.Omega.{arith}
use borrow.Author.Tests.{eq-eqb, ne_eqb, lt-leb}
use lib.Dec.{leb, ltb, eqb}
use lib.ListN.{length}
use lib.Ieee.{Float}
use Rattle.refusal.specs.Refusal.{first_of, ascending_from}
use Rattle.std.specs.Prelude.{Ok, Err}
use Rattle.refusal.specs.declared.Refusal.{Refusal}
use Rattle.refusal.specs.Numbered.{number_of, says}
use Rattle.refusal.proofs.NumberedLaws.{number_of-positive}
use Rattle.c_word.specs.Word.{as_word, word_of, itself}
use Rattle.refusal.proofs.RefusalLaws.{lowest, applies_for}
use Rattle.limits.specs.Limits.{max_weight}
use Rattle.numeric.specs.Numeric.{all_in_range}
use Rattle.row_smoothing.specs.Smoothing.{sound_weights}
use Rattle.row_smoothed.specs.SmoothRow.{sound_or_none}
use Rattle.grid_rows.specs.Grid.{Grid, count_to}
use Rattle.grid.specs.GridNumber.{grid_checks, grid_number}
use Rattle.grid_rows.specs.Steps.{Done}
use Rattle.grid.proofs.Laws as grid
use Rattle.grid_byte_rows.specs.AsBytes.{as_bytes}
use Rattle.c_grid_stitch.specs.Entry.{also, entry_checks, entry_number, EntryLowest, Answered}
use Rattle.grid_bytes.specs.ByteGrid.{Fit}

-- ---- weights: none, too many, or as many as there is room for
pub no-weights : (ws : List Float) → length ws ≡ 0 → true ≡ sound_or_none ws
no-weights ws h = rw (eq-eqb (length ws) 0 h)

pub long-weights : (ws : List Float) → 257 < length ws → false ≡ sound_or_none ws
unfolding sound_weights
long-weights ws h = rw (ne_eqb (length ws) 0 (λ e. omega arith), lt-leb (length ws) 257 h) (go (eqb (length ws % 2) 1) _ _)
  where
    go : (a b c : Bool) → false ≡ (a && false && b && c)
    go true b c = refl
    go false b c = refl

-- above 1, or a NaN
pub wrong-weights : (ws : List Float) → (length ws ≡ 0 → ⊥) → all_in_range max_weight ws ≡ false → false ≡ sound_or_none ws
unfolding sound_weights
wrong-weights ws n h = rw (ne_eqb (length ws) 0 n, h) (go (eqb (length ws % 2) 1 && leb (length ws) 257) _)
  where
    go : (a b : Bool) → false ≡ (a && false && b)
    go true b = refl
    go false b = refl

pub some-weights : (ws : List Float) (r : Bool) → (length ws ≡ 0 → ⊥) → r ≡ sound_weights ws → r ≡ sound_or_none ws
some-weights ws r h e = rw (ne_eqb (length ws) 0 h) e

-- ---- the number of a call

-- a number that the later checks give is 0 or above 4
later : (a b c d e f : Bool) → let r : ℕ = cond a 5 (cond b 6 (cond c 7 (cond d 20 (cond e 21 (cond f 22 0))))) in (eqb r 0 || ltb 4 r) ≡ true
later true b c d e f = refl
later false true c d e f = refl
later false false true d e f = refl
later false false false true e f = refl
later false false false false true f = refl
later false false false false false true = refl
later false false false false false false = refl

-- so a further reason for 4 shows where the number is 0 or above 4
flagged : (flag a b c d : Bool) (r : ℕ) → (eqb r 0 || ltb 4 r) ≡ true
    → let n : ℕ = cond a 1 (cond b 2 (cond c 3 (cond d 4 r))) in
    cond {A = ℕ} a 1 (cond b 2 (cond c 3 (cond (flag || d) 4 r))) ≡ cond (flag && (eqb n 0 || ltb 4 n)) 4 n
flagged false a b c d r h = refl
flagged true true b c d r h = refl
flagged true false true c d r h = refl
flagged true false false true d r h = refl
flagged true false false false true r h = refl
flagged true false false false false r h = rw h

pub entry-is : (whole : Bool) (flag : ℕ) (g : Grid) (rows room : ℕ)
    → let n = grid_number g rows room g.cols in entry_number whole flag g rows room ≡ cond whole (cond (ltb 1 flag && (eqb n 0 || ltb 4 n)) 4 n) 1
unfolding entry_number also first_of grid_number
entry-is true flag g rows room =
    let a : ℕ → Bool = λ k. applies_for k (grid_checks g rows room g.cols) in
    flagged (ltb 1 flag) (a 1) (a 2) (a 3) (a 4) (cond (a 5) 5 (cond (a 6) 6 (cond (a 7) 7 (cond (a 20) 20 (cond (a 21) 21 (cond (a 22) 22 0))))))
    (later (a 5) (a 6) (a 7) (a 20) (a 21) (a 22))
entry-is false flag g rows room = refl

-- ---- a call that no number refuses
pub entry_zero : (whole : Bool) (flag : ℕ) (g : Grid) (rows room : ℕ) → entry_number whole flag g rows room ≡ 0 → grid_number g rows room g.cols ≡ 0
entry_zero whole flag g rows room e =
    let n = grid_number g rows room g.cols in go whole (ltb 1 flag && (eqb n 0 || ltb 4 n)) n (sym (entry-is whole flag g rows room) ∙ e)
  where
    go : (a b : Bool) (n : ℕ) → cond a (cond b 4 n) 1 ≡ 0 → n ≡ 0
    go true true n h = absurd (omega arith)
    go true false n h = h
    go false b n h = absurd (omega arith)

pub fit : (g : Grid) (rows room : ℕ) → grid_number g rows (room / 4) g.cols ≡ 0 → Fit g 0 rows room
fit g rows room e =
    let a = grid.accepted g rows (room / 4) g.cols e in record { ready = a.ready; order = omega arith; narrow = a.narrow }

module _ (whole : Bool) (flag : ℕ) (g : Grid) (rows : ℕ) (out₀ : List ℕ) where
  pub accepted : (n : ℕ) (out : List ℕ) → 0 ≡ entry_number whole flag g rows (length out₀ / 4) → Done as_bytes g 0 rows out₀ out n → Answered whole flag g rows out₀ out (word_of itself (says (Ok n)))
  unfolding as_word
  accepted n out is d =
      let e : entry_number whole flag g rows (length out₀ / 4) ≡ 0 = sym is in
      let r : rows - 0 ≡ rows = omega arith in
      let c : n ≡ count_to g rows = d.count ∙ rw r in
      record { answer = rw e (ap (λ (i : ℕ). i * 64) c); bytes = rw e (d.words ∙ rw (r, c)) }

  pub refused : (e : Refusal) → number_of e ≡ entry_number whole flag g rows (length out₀ / 4) → Answered whole flag g rows out₀ out₀ (word_of itself (says {A = ℕ} (Err e)))
  unfolding as_word
  refused e is = let k : eqb (entry_number whole flag g rows (length out₀ / 4)) 0 ≡ false = ne_eqb _ 0 (λ q. number_of-positive e (is ∙ q)) in record { answer = rw k is; bytes = rw k }

-- ---- the number is the lowest that applies
pub entry-lowest : EntryLowest
unfolding entry_number also ascending_from
entry-lowest whole flag g rows room h = lowest 0 (entry_checks whole flag g rows room) refl h
