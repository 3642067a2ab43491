-- Laws of windows as words, and of traces that are written frame after frame.
use mathlib.Core.Path.{◌≡◌, refl, sym, ap, ◌∙◌}
use mathlib.Core.Bool.{Bool, true, false}
use mathlib.Core.List.{List, [], ◌∷◌, ◌++◌}
use Prim.Native.Nat.{ℕ, zero, suc, ◌≤◌, ◌<◌, ◌+◌, ◌-◌, ◌*◌}
use native.Mathlib.Nat.{suc-mul}
use native.Mathlib.Omega.{arith}
use borrow.Author.Tests.{eqb-true, eqb-false, ltb-true, ltb-false}
use lib.Dec.{eqb, ltb}
use lib.ListN.{length, get_or, take, drop, set, length-set, length-drop, length-append, take-append-drop}
use lib.Arith.{digits_lt}
use lib.Seq.{get_or-set_same, get_or-set_other, get_or-drop, get_or-take, drop-set-lt, drop-drop, take-add, take_at, drop_at, length-take-le}
use lib.Ieee.{Float, nan}
use Rattle.numeric.specs.Arith.{𝟎, at}
use Rattle.sort_digits.proofs.UpTo.{row_fits, front-map}
use Rattle.tof_scale.specs.declared.TofScale.{TofScale}
use Rattle.row_record.specs.Record.{size, peak_at}
use Rattle.row_record.proofs.Laws.{front-peak}
use Rattle.frames_index.specs.FrameIndex.{Index, frames}
use Rattle.frames_sums.specs.declared.inner.Window.{Window}
use Rattle.frames_sums.specs.Sums.{add_frame, frame_sums}
use Rattle.frames_windows.specs.Windows.{peak_window}
use Rattle.frames_many_traces.specs.ManyTraces.{traces_of}
use Rattle.frames_many_traces.specs.Steps.{window_at, Kept, Noted, Column, Columns}

-- ---- windows as words

pub kept : (k : ℕ) (w : Window) (d new : List ℕ) → 4 * k + 4 ≤ length d
    → new ≡ take (4 * k) d ++ ((w.bin_lo ∷ w.bin_hi ∷ w.scan_lo ∷ w.scan_hi ∷ []) ++ drop (4 * k + 4) d) → Kept k w d new
kept k w d new h e =
    let a = 4 * k in
    let ws : List ℕ = w.bin_lo ∷ w.bin_hi ∷ w.scan_lo ∷ w.scan_hi ∷ [] in
    let r = drop (a + 4) d in
    let la : length (take a d) ≡ a = length-take-le a d (omega arith) in
    let front : take a new ≡ take a d = ap (take a) e ∙ take_at (take a d) (ws ++ r) a la in
    let back : drop a new ≡ ws ++ r = ap (drop a) e ∙ drop_at (take a d) (ws ++ r) a la in
    let at : (i : ℕ) → get_or new (a + i) 0 ≡ get_or (ws ++ r) i 0 = λ i. sym (get_or-drop a new i 0) ∙ ap (λ (l : List ℕ). get_or l i 0) back in
    let z : a + 0 ≡ a = omega arith in
    let first : get_or new a 0 ≡ w.bin_lo = rw z at (at 0) in
    let size : length new ≡ length (take a d) + suc (suc (suc (suc (length r)))) = ap length e ∙ length-append (take a d) (ws ++ r) in
    record {
      size = omega (arith, size, la, length-drop (a + 4) d);
      here = rw (first, at 1, at 2, at 3) refl;
      front = λ i l. sym (get_or-take a new i 0 l) ∙ ap (λ (x : List ℕ). get_or x i 0) front ∙ get_or-take a d i 0 l;
      rest = sym (drop-drop 4 a new) ∙ ap (drop 4) back;
    }

module _ (w : ℕ → Window) (old : List ℕ) where
  pub noted-none : Noted w 0 old old
  noted-none = record { size = refl; here = λ k h. absurd (omega arith); rest = refl }

  pub noted_more : (k : ℕ) (v : Window) (mid new : List ℕ) → Noted w k old mid → v ≡ w k → Kept k v mid new → Noted w (k + 1) old new
  noted_more k v mid new p e q =
      let a : 4 * (k + 1) ≡ 4 * k + 4 = omega arith in
      record {
        size = q.size ∙ p.size;
        here = λ j h. go j h (eqb j k) refl;
        rest = rw a (q.rest ∙ sym (drop-drop 4 (4 * k) mid) ∙ ap (drop 4) p.rest ∙ drop-drop 4 (4 * k) old);
      }
    where
      go : (j : ℕ) → j < k + 1 → (t : Bool) → eqb j k ≡ t → window_at new j ≡ w j
      go j h true t = let x : j ≡ k = eqb-true j k t in rw x (q.here ∙ e)
      go j h false t =
          let x = eqb-false j k t in
          let b : get_or new (4 * j) 0 ≡ get_or mid (4 * j) 0 = q.front (4 * j) (omega arith) in
          let c : get_or new (4 * j + 1) 0 ≡ get_or mid (4 * j + 1) 0 = q.front (4 * j + 1) (omega arith) in
          let s : get_or new (4 * j + 2) 0 ≡ get_or mid (4 * j + 2) 0 = q.front (4 * j + 2) (omega arith) in
          let u : get_or new (4 * j + 3) 0 ≡ get_or mid (4 * j + 3) 0 = q.front (4 * j + 3) (omega arith) in
          rw (b, c, s, u) (p.here j (omega arith))

-- ---- n lists of m places each

-- no two places are one
lists-apart : (j k m f g : ℕ) → j < k → f < m → j * m + f ≡ k * m + g → ⊥
lists-apart j k m f g h l e = omega (arith, row_fits j k m (k * m) h (omega arith))

-- a place of a list is no other place of another
pub places-apart : (j k m f g : ℕ) → f < m → g < m → k * m + g ≡ j * m + f → g ≡ f
places-apart j k m f g l n e = go (ltb j k) (ltb k j) refl refl
  where
    go : (s t : Bool) → ltb j k ≡ s → ltb k j ≡ t → g ≡ f
    go true t a b = absurd (lists-apart j k m f g (ltb-true j k a) l (sym e))
    go false true a b = absurd (lists-apart k j m g f (ltb-true k j b) n e)
    go false false a b = let x : j ≡ k = omega (arith, ltb-false j k a, ltb-false k j b) in let y : k * m + g ≡ k * m + f = e ∙ ap (λ (i : ℕ). i * m + f) x in omega arith

-- the first k of the f-th places are written
pub record Putting (value : ℕ → Float) (k n m f : ℕ) (old new : List Float) : Type 0 where
  pub size : length new ≡ length old
  pub here : (j : ℕ) → j < k → at new (j * m + f) ≡ value j
  pub others : (i : ℕ) → ((j : ℕ) → j < k → i ≡ j * m + f → ⊥) → at new i ≡ at old i
  pub rest : drop (n * m) new ≡ drop (n * m) old

module _ (value : ℕ → Float) (n m f : ℕ) (old : List Float) where
  pub putting-none : Putting value 0 n m f old old
  putting-none = record { size = refl; here = λ j h. absurd (omega arith); others = λ i h. refl; rest = refl }

  pub putting-more : (k : ℕ) (mid : List Float) (v : Float) → Putting value k n m f old mid → k < n → f < m → n * m ≤ length old → v ≡ value k
      → Putting value (k + 1) n m f old (set mid (k * m + f) v)
  putting-more k mid v p h l room e =
      let within : k * m + f < n * m = digits_lt h l in
      let size : length mid ≡ length old = p.size in
      record {
        size = length-set mid (k * m + f) v ∙ size;
        here = λ j b. go j b (eqb j k) refl;
        others = λ i b. get_or-set_other mid (k * m + f) i v nan (b k (omega arith)) ∙ p.others i (λ j c. b j (omega arith));
        rest = drop-set-lt (n * m) mid (k * m + f) v within ∙ p.rest;
      }
    where
      go : (j : ℕ) → j < k + 1 → (t : Bool) → eqb j k ≡ t → at (set mid (k * m + f) v) (j * m + f) ≡ value j
      go j b true t =
          let x : j ≡ k = eqb-true j k t in
          let within : k * m + f < n * m = digits_lt h l in
          let size : length mid ≡ length old = p.size in
          rw x (get_or-set_same mid (k * m + f) v nan (omega arith) ∙ e)
      go j b false t =
          let x = eqb-false j k t in
          get_or-set_other mid (k * m + f) (j * m + f) v nan (λ y. lists-apart j k m f f (omega arith) l y) ∙ p.here j (omega arith)

  pub putting-end : (k : ℕ) (new : List Float) → k ≡ n → Putting value k n m f old new → Column value n m f old new
  putting-end k new e p = let q : Putting value n n m f old new = rw e at p in record { size = q.size; here = q.here; others = q.others; rest = q.rest }

module _ (value : ℕ → ℕ → Float) (n m : ℕ) (old : List Float) where
  pub columns-none : Columns value n m 0 old old
  columns-none = record { size = refl; here = λ k g a b. absurd (omega arith); rest = refl }

  pub columns-more : (f : ℕ) (mid new : List Float) → Columns value n m f old mid → f < m → Column (λ k. value k f) n m f mid new → Columns value n m (f + 1) old new
  columns-more f mid new p l q = record { size = q.size ∙ p.size; here = λ k g a b. go k g a b (eqb g f) refl; rest = q.rest ∙ p.rest }
    where
      go : (k g : ℕ) → k < n → g < f + 1 → (t : Bool) → eqb g f ≡ t → at new (k * m + g) ≡ value k g
      go k g a b true t = let x : g ≡ f = eqb-true g f t in rw x (q.here k a)
      go k g a b false t =
          let x = eqb-false g f t in
          q.others (k * m + g) (λ j c e. x (places-apart j k m f g l (omega arith) e)) ∙ p.here k g a (omega arith)

-- ---- all traces

module _ (ix : Index) (scale : TofScale) (pad : ℕ) (list : List ℕ) (w : ℕ → Window) (n : ℕ) (old new : List Float)
    (c : Columns (λ k g. add_frame ix (w k) g 𝟎) n (frames ix) (frames ix) old new) (room : n * frames ix ≤ length old)
    (same : (k : ℕ) → k < n → w k ≡ peak_window scale pad (peak_at list k)) where
  -- the first j of them
  traces-to : (j : ℕ) → j ≤ n → take (j * frames ix) new ≡ traces_of ix scale pad list j
  unfolding traces_of frame_sums
  traces-to zero h = let z : 0 * frames ix ≡ 0 = omega arith in rw z
  traces-to (suc j) h =
      let m = frames ix in
      let e : suc j * m ≡ j * m + m = suc-mul j m in
      let fit : j * m + m ≤ n * m = row_fits j n m (n * m) (omega arith) (omega arith) in
      let size : length new ≡ length old = c.size in
      let left : length (drop (j * m) new) ≡ length new - j * m = length-drop (j * m) new in
      rw e
      (take-add (j * m) m new
      ∙ ap (λ (x : List Float). x ++ take m (drop (j * m) new)) (traces-to j (omega arith))
      ∙ ap (λ (x : List Float). traces_of ix scale pad list j ++ x)
      (front-map (drop (j * m) new) nan (λ k. add_frame ix (peak_window scale pad (peak_at list j)) (0 + k) 𝟎) m (omega arith)
      (λ g b.
      let z : 0 + g ≡ g = omega arith in
      get_or-drop (j * m) new g nan ∙ c.here j g (omega arith) b ∙ ap (λ (v : Window). add_frame ix v g 𝟎) (same j (omega arith))
      ∙ ap (λ (i : ℕ). add_frame ix (peak_window scale pad (peak_at list j)) i 𝟎) (sym z))))

  pub traces-all : new ≡ traces_of ix scale pad list n ++ drop (n * frames ix) old
  traces-all =
      sym (take-append-drop (n * frames ix) new)
      ∙ ap (λ (x : List Float). x ++ drop (n * frames ix) new) (traces-to n (omega arith))
      ∙ ap (λ (x : List Float). traces_of ix scale pad list n ++ x) c.rest

-- ---- the front of a list of peaks
pub front-traces : (ix : Index) (scale : TofScale) (pad : ℕ) (list : List ℕ) (n k : ℕ) → k ≤ n
    → traces_of ix scale pad (take (n * size) list) k ≡ traces_of ix scale pad list k
unfolding traces_of
front-traces ix scale pad list n zero h = refl
front-traces ix scale pad list n (suc k) h = rw (front-traces ix scale pad list n k (omega arith), front-peak list n k (omega arith))
