-- Laws of grids in bytes.
use mathlib.Core.Path.{◌≡◌, refl, sym, ap, ◌∙◌}
use mathlib.Core.Bool.{true}
use mathlib.Core.List.{List, [], ◌∷◌, ◌++◌}
use Prim.Native.Nat.{ℕ, ◌+◌, ◌-◌, ◌*◌, ◌/◌, ◌%◌, ◌^◌, ◌≤◌, ◌<◌}
use native.Mathlib.Omega.{arith}
use native.Mathlib.Nat.{le-add_right}
use borrow.Author.Tests.{ne_eqb}
use borrow.Rule.Slice.PartMut.{put_mid}
use lib.Dec.{eqb}
use lib.ListN.{length, take, drop, length-append}
use lib.Seq.{take_at, length-take-le}
use lib.Ieee.{Float}
use Rattle.refusal.proofs.Bools.{all4}
use Rattle.limits.specs.Limits.{max_reading, max_weight}
use Rattle.numeric.specs.Numeric.{all_in_range}
use Rattle.numeric.proofs.Patterns.{all-wider}
use Rattle.row_record.specs.Record.{size, size_in_bytes}
use Rattle.row_params.specs.Params.{most_peaks}
use Rattle.row_smoothing.specs.Smoothing.{sound_weights}
use Rattle.row_smoothed.specs.SmoothRow.{sound_or_none}
use Rattle.grid_rows.specs.Grid.{Grid}
use Rattle.grid_rows.specs.Steps.{numbered, Done}
use Rattle.grid_rows.proofs.Laws.{count-bound, few-weights}
use Rattle.grid_rows.proofs.Laws as grid
use Rattle.grid_word_bytes.specs.Bytes.{floats_of}
use Rattle.grid_word_bytes.proofs.BytesLaws.{floats-length}
use Rattle.grid_byte_rows.specs.AsBytes.{as_bytes}
use Rattle.grid_bytes.specs.ByteGrid.{Fit}

-- ---- weights
-- all weights are in the range of readings
sound-ranged : (ws : List Float) → sound_weights ws ≡ true → all_in_range max_reading ws ≡ true
unfolding sound_weights
sound-ranged ws h = all-wider max_weight max_reading ws (omega arith) (all4 (eqb (length ws % 2) 1) h).2

pub weights-ranged : (ws : List Float) → sound_or_none ws ≡ true → all_in_range max_reading ws ≡ true
unfolding all_in_range
weights-ranged [] h = refl
weights-ranged (w ∷ ws) h = sound-ranged (w ∷ ws) (rw (ne_eqb (length (w ∷ ws)) 0 (λ e. omega arith)) at h)

-- decoded, they are as many as the local lists hold, and as the front of such a list takes
pub bytes-fit : (b : List ℕ) → sound_or_none (floats_of b) ≡ true → length b / 4 ≤ 257
bytes-fit b h = omega (arith, floats-length b, few-weights (floats_of b) h)

-- what is written into the first m places of a list stands there
pub fills-front : {A : Type 0} (m : ℕ) (zeros w rest : List A) → length w ≡ length (take m zeros) → m ≤ length zeros
    → (m ≤ length (w ++ rest)) × (m ≡ length (take m (w ++ rest))) × (take m (w ++ rest) ≡ w)
fills-front m zeros w rest e h =
    let n : length w ≡ m = e ∙ length-take-le m zeros h in
    let t = take_at w rest m n in (rw (length-append, n) (le-add_right m (length rest)), sym (ap length t ∙ n), t)

-- ---- rows in two halves

-- the bytes behind those of n peaks, as words
words_left : (l n most left : ℕ) → n * size + most * size ≤ l / 4 → left ≡ l - n * size_in_bytes → l / 4 ≤ n * size + left / 4
words_left l n most left h e = omega arith

abbrev pub half_way : ℕ → ℕ → ℕ
half_way from to = from + (to - from) / 2

module _ (g : Grid) (from to room : ℕ) (f : Fit g from to room) (many : 65536 < to - from) where
  abbrev mid : ℕ
  mid = half_way from to

  low : from ≤ mid
  low = omega arith

  high : mid < to
  high = omega (arith, many)

  pub front-fit : Fit g from (half_way from to) room
  front-fit = record { ready = grid.ready-front g from mid to (room / 4) f.ready low (omega arith); order = low; narrow = f.narrow }

  -- n peaks are those of the first half
  module _ (out₀ out : List ℕ) (n : ℕ) (d : Done as_bytes g from (half_way from to) out₀ out n) where
    room_for : n * size + most_peaks g.cols * size ≤ room / 4
    room_for = grid.turn-room g from to (room / 4) f.ready mid n low high d.count

    pub front-room : n * size_in_bytes ≤ room
    front-room = omega (arith, room_for)

    pub front-ids : g.first < 2 ^ 32 → (n < 2 ^ 32) × (g.first + n < 2 ^ 32)
    front-ids h = grid.turn-ids g from to (room / 4) f.ready mid n low high d.count h

    pub back-fit : (left : ℕ) → left ≡ room - n * size_in_bytes → Fit (numbered g (g.first + n)) (half_way from to) to left
    back-fit left e =
        record {
          ready = grid.ready-back g from mid to (room / 4) f.ready low (omega arith) n d.count (left / 4) (words_left room n (most_peaks g.cols) left room_for e);
          order = omega arith;
          narrow = f.narrow;
        }

    pub halves-done : (last : List ℕ) (m : ℕ) → Done as_bytes (numbered g (g.first + n)) (half_way from to) to (take (length out - n * size_in_bytes) (drop (n * size_in_bytes) out)) last m
        → Done as_bytes g from to out₀ (put_mid (n * size_in_bytes) (length out - n * size_in_bytes) out last) (n + m)
    halves-done last m b = grid.done-join g from mid to (room / 4) f.ready low (omega arith) n d.count as_bytes out₀ out last m d b

-- the count of peaks fits an answer
pub count_fits : (g : Grid) (from to room n : ℕ) (out₀ out : List ℕ) → Fit g from to room → Done as_bytes g from to out₀ out n → n ≤ 2 ^ 32
count_fits g from to room n out₀ out r d = let b = count-bound g from (to - from) in omega (arith, r.ready.ids, d.count)
