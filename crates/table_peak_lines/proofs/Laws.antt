-- The lines that stand at the front of a buffer, and one line more.
use mathlib.Core.Path.{◌≡◌, refl, sym, ◌∙◌, ap, subst}
use mathlib.Core.Bool.{true}
use mathlib.Core.List.{List, [], ◌∷◌, ◌++◌, append_assoc}
use Prim.Native.Nat.{ℕ, zero, suc, ◌≤◌, ◌+◌, ◌-◌, ◌*◌, min}
use native.Mathlib.Omega.{arith}
use lib.ListN.{length, get_or, take, drop, replicate, length-append}
use lib.Seq.{take_at, drop-drop, drop-append-add}
use lib.Ieee.{Float}
use Rattle.numeric.specs.Arith.{𝟎}
use Rattle.row_record.specs.declared.ImPeak1D.{ImPeak1D}
use Rattle.row_params.specs.declared.ImDetectParams.{ImDetectParams}
use Rattle.row_search.specs.Qualifying.{highest_reading, reaches}
use Rattle.row_search.specs.Found.{oldest, Searchable}
use Rattle.row_search.proofs.Laws.{Next}
use Rattle.row_search.specs.declared.inner.Measured.{Measured}
use Rattle.row.specs.Row.{peak_of, scan_at, on_axes}
use Rattle.table_text.specs.Print.{peak_line, places_of, floats_of}
use Rattle.table_text.proofs.Facts.{line-most}
use Rattle.table_peak_lines.specs.RowLines.{place_of, no_frames, no_axes, printed_peak, lines_of, LineAlone, Printable, Printed}

-- a line has at most 92 bytes
pub lines-most : (r : ℕ) (y : List Float) (es : List ℕ) → length (lines_of r y es) ≤ length es * 92
unfolding lines_of
lines-most r y [] = omega arith
lines-most r y (i ∷ es) =
    let h = lines-most r y es in
    let l = line-most (printed_peak r y i) in
    rw length-append (omega arith)

module _ (r : ℕ) (y : List Float) where
  pub printed-none : (d : List ℕ) → Printed r y d d 0 []
  unfolding lines_of
  printed-none d = record { count = refl; front = refl }

  -- one more line behind them
  one-printed : (es d out next : List ℕ) (n m i : ℕ) → Printed r y d out n es → m ≡ n + length (peak_line (printed_peak r y i))
      → next ≡ take n out ++ (peak_line (printed_peak r y i) ++ drop m out) → Printed r y d next m (i ∷ es)
  unfolding lines_of
  one-printed es d out next n m i h e o =
      let P = lines_of r y es in
      let L = peak_line (printed_peak r y i) in
      let t : take n out ≡ P = ap (take n) h.front ∙ take_at P (drop n d) n (sym h.count) in
      let s : drop (length P + length L) (P ++ drop n d) ≡ drop (length L) (drop n d) = drop-append-add P (drop n d) (length L) in
      let k : length P + length L ≡ m = omega (arith, h.count) in
      let g : drop m out ≡ drop m d =
      ap (drop m) h.front ∙ subst (λ (z : ℕ). drop z (P ++ drop n d) ≡ drop (length L) (drop n d)) k s ∙ drop-drop (length L) n d ∙ ap (λ (z : ℕ). drop z d) (sym e) in
      record { count = rw length-append (sym k); front = o ∙ rw (t, g) (sym (append_assoc P L (drop m d))) }

  -- the line of the next of the kept apexes
  pub next-printed : (found ks d out last : List ℕ) (j n m : ℕ) (peak : ImPeak1D) (k : Next y y found ks j) → Printed r y d out n (oldest j ks)
      → peak ≡ printed_peak r y k.apex → m ≡ n + length (peak_line peak) → last ≡ take n out ++ (peak_line peak ++ drop m out)
      → Printed r y d last m (oldest (j + 1) ks)
  next-printed found ks d out last j n m peak k h e c o =
      let l = ap peak_line e in
      rw k.is (one-printed (oldest j ks) d out last n m k.apex h (c ∙ ap (λ (x : List ℕ). n + length x) l) (o ∙ ap (λ (x : List ℕ). take n out ++ (x ++ drop m out)) l))

-- a row that is ready and reaches the floor can be searched
pub searchable : {p : ImDetectParams} {y : List Float} {room : ℕ} (samples : ℕ) → Printable y room
    → reaches p.min_prom (highest_reading 𝟎 y) ≡ true → length y ≤ samples → Searchable p y y samples
searchable samples r f a = record { numbers = r.numbers; raw = refl; short = let s = r.short in omega arith; room = a; floor = f }

-- ---- no field of a line speaks of the scan axis

-- an axis of zeros, which stands in for none where an axis is asked for
zero_in : (n i : ℕ) → ◌≡◌ {A = ℕ} (get_or (replicate n 0) i 0) 0
zero_in zero i = refl
zero_in (suc n) zero = refl
zero_in (suc n) (suc i) = zero_in n i

zeros-at : (n k : ℕ) → scan_at (replicate n 0) k ≡ 0
zeros-at n k = zero_in n (min k (length (replicate n 0) - 1))

-- what an apex has on no axes is what it has on zeros
pub on-zeros : (n : ℕ) (a : Measured) → no_axes ≡ on_axes [] (replicate n 0) a
on-zeros n a = rw (zeros-at n a.index, zeros-at n a.left, zeros-at n a.right)

-- and its peak is the one that is printed
pub on_none : (r : ℕ) (y : List Float) (i : ℕ) → peak_of (place_of r) no_frames [] (replicate (length y) 0) y y i 0 ≡ printed_peak r y i
unfolding peak_of
on_none r y i = simp (zeros-at (length y))

pub line-alone : LineAlone
unfolding peak_of places_of floats_of
line-alone r f mobility axis y i id = refl
