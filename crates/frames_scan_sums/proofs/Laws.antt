-- Sums by scan: each value of a window's scans is a sum of its own.
use mathlib.Core.Path.{◌≡◌, refl, sym, ap, ◌∙◌}
use mathlib.Core.Bool.{Bool, true, false, ◌&&◌}
use mathlib.Core.List.{List, ◌++◌, map}
use Prim.Native.Nat.{ℕ, suc, ◌≤◌, ◌<◌, ◌+◌, ◌-◌}
use native.Mathlib.Omega.{arith}
use borrow.Author.Tests.{le-leb, lt-leb, leb-true, ltb-true, ltb-false, eqb-true, eqb-false}
use lib.Dec.{leb, ltb, eqb}
use lib.ListN.{length, get_or, drop, set, length-set, take-append-drop, length-map}
use lib.Seq.{get_or-set_same, get_or-set_other, drop-set-lt}
use lib.Ieee.{Float, nan}
use Rattle.refusal.proofs.Bools.{clash, both}
use Rattle.numeric.specs.Arith.{◌⊕◌, 𝟎, at}
use Rattle.sort_digits.specs.Sorted.{up_to}
use Rattle.sort_digits.proofs.UpTo.{upto-length, front-map}
use Rattle.frames_index.specs.FrameIndex.{Index}
use Rattle.frames_sums.specs.declared.inner.Window.{Window}
use Rattle.frames_sums.specs.declared.inner.Span.{Span}
use Rattle.frames_sums.specs.Sums.{in_scans, add_points, add_frame, add_frames, at_scan, scan_sums}
use Rattle.frames_sums.specs.Steps.{PointsOf}
use Rattle.frames_scan_sums.specs.Steps.{scans_of, Stepped}
use Rattle.frames_sums.proofs.Laws.{points-take, points-skip, points_none}
use Rattle.std.proofs.Math.Bool.{and-false}

-- a window of one scan has that scan and no other
one-scan : (w : Window) (a s : ℕ) → a ≡ s → in_scans (at_scan w a) s ≡ true
one-scan w a s e = rw (le-leb a s (omega arith), le-leb s a (omega arith))

other-scan : (w : Window) (a s : ℕ) → (a ≡ s → ⊥) → in_scans (at_scan w a) s ≡ false
other-scan w a s n = go (ltb a s) refl
  where
    go : (t : Bool) → ltb a s ≡ t → (leb a s && leb s a) ≡ false
    go true t = rw (lt-leb s a (ltb-true a s t)) (and-false (leb a s))
    go false t = rw (lt-leb a s (omega (arith, ltb-false a s t)))

-- a scan of the window has a value of its own
pub scan-in : (w : Window) (s : ℕ) → in_scans w s ≡ true → (w.scan_lo ≤ s) × (s - w.scan_lo < scans_of w)
scan-in w s t =
    let p = both (leb w.scan_lo s) t in
    let lo = leb-true w.scan_lo s p.0 in
    let hi = leb-true s w.scan_hi p.1 in
    (lo, omega arith)

-- ---- points

module _ (ix : Index) (w : Window) (a b : ℕ) (old : List Float) where
  -- what is left of the points adds up to the whole, at each scan
  pub record Dealing (j : ℕ) (out : List Float) : Type 0 where
    pub after : a ≤ j
    pub before : j ≤ b
    pub size : length out ≡ length old
    pub left : (k : ℕ) → k < scans_of w → add_points ix (at_scan w (w.scan_lo + k)) (b - j) j (at out k) ≡ add_points ix (at_scan w (w.scan_lo + k)) (b - a) a (at old k)
    pub rest : drop (scans_of w) out ≡ drop (scans_of w) old

  pub deal-start : a ≤ b → Dealing a old
  deal-start h = record { after = omega arith; before = h; size = refl; left = λ k l. refl; rest = refl }

  pub deal-end : (j : ℕ) (out : List Float) → Dealing j out → b ≤ j → Stepped (λ k. add_points ix (at_scan w (w.scan_lo + k)) (b - a) a) (scans_of w) old out
  deal-end j out d h =
      record { size = d.size; front = λ k l. sym (points_none ix (at_scan w (w.scan_lo + k)) j b (at out k) h) ∙ d.left k l; rest = d.rest }

  -- a point at a scan of the window
  pub deal-take : (j s k : ℕ) (out : List Float) (v : Float) → Dealing j out → j < b → s ≡ get_or ix.scans j 0 → in_scans w s ≡ true → k ≡ s - w.scan_lo
      → scans_of w ≤ length old → v ≡ at out k ⊕ at ix.readings j → Dealing (j + 1) (set out k v)
  deal-take j s k out v d h se t ke room ve =
      let lo : w.scan_lo ≤ s = (scan-in w s t).0 in
      let hi : s - w.scan_lo < scans_of w = (scan-in w s t).1 in
      let size : length out ≡ length old = d.size in
      let before : j ≤ b = d.before in
      let after : a ≤ j = d.after in
      record {
        after = omega arith;
        before = omega arith;
        size = length-set out k v ∙ size;
        left = λ i l. go i l (eqb i k) refl;
        rest = drop-set-lt (scans_of w) out k v (omega arith) ∙ d.rest;
      }
    where
      go : (i : ℕ) → i < scans_of w → (t : Bool) → eqb i k ≡ t
          → add_points ix (at_scan w (w.scan_lo + i)) (b - (j + 1)) (j + 1) (at (set out k v) i) ≡ add_points ix (at_scan w (w.scan_lo + i)) (b - a) a (at old i)
      go i l true e =
          let x : i ≡ k = eqb-true i k e in
          let lo : w.scan_lo ≤ s = (scan-in w s t).0 in
          let hi : s - w.scan_lo < scans_of w = (scan-in w s t).1 in
          let size : length out ≡ length old = d.size in
          rw x
          (ap (add_points ix (at_scan w (w.scan_lo + k)) (b - (j + 1)) (j + 1)) (get_or-set_same out k v nan (omega arith) ∙ ve)
          ∙ sym (points-take ix (at_scan w (w.scan_lo + k)) j b (at out k) h (rw (sym se) (one-scan w (w.scan_lo + k) s (omega arith))))
          ∙ d.left k (omega arith))
      go i l false e =
          let x : i ≡ k → ⊥ = eqb-false i k e in
          ap (add_points ix (at_scan w (w.scan_lo + i)) (b - (j + 1)) (j + 1)) (get_or-set_other out k i v nan x)
          ∙ sym (points-skip ix (at_scan w (w.scan_lo + i)) j b (at out i) h (rw (sym se) (other-scan w (w.scan_lo + i) s (λ y. x (omega arith)))))
          ∙ d.left i l

  -- a point at another scan
  pub deal-skip : (j s : ℕ) (out : List Float) → Dealing j out → j < b → s ≡ get_or ix.scans j 0 → in_scans w s ≡ false → Dealing (j + 1) out
  deal-skip j s out d h se t =
      let before : j ≤ b = d.before in
      let after : a ≤ j = d.after in
      record {
        after = omega arith;
        before = omega arith;
        size = d.size;
        left = λ i l.
            sym (points-skip ix (at_scan w (w.scan_lo + i)) j b (at out i) h (rw (sym se) (other-scan w (w.scan_lo + i) s (λ e. out_of i l e)))) ∙ d.left i l;
        rest = d.rest;
      }
    where
      out_of : (i : ℕ) → i < scans_of w → w.scan_lo + i ≡ s → ⊥
      out_of i l e = clash (in_scans w s) (rw (le-leb w.scan_lo s (omega arith), le-leb s w.scan_hi (omega arith))) t

-- ---- frames

pub sums-length : (ix : Index) (w : Window) (f n : ℕ) → length (scan_sums ix w f n) ≡ scans_of w
unfolding scan_sums
sums-length ix w f n = length-map (up_to (scans_of w)) (λ k. add_frames ix (at_scan w (w.scan_lo + k)) n f 𝟎) ∙ upto-length (scans_of w)

frames-step : (ix : Index) (w : Window) (f n g : ℕ) (so : Float) → g < n
    → add_frames ix w (n - g) (f + g) so ≡ add_frames ix w (n - (g + 1)) (f + (g + 1)) (add_frame ix w (f + g) so)
unfolding add_frames
frames-step ix w f n g so h =
    let e : n - g ≡ suc (n - (g + 1)) = omega arith in
    let k : f + (g + 1) ≡ f + g + 1 = omega arith in
    rw (e, k)

frames-none : (ix : Index) (w : Window) (f n : ℕ) (so : Float) → n ≡ 0 → add_frames ix w n f so ≡ so
unfolding add_frames
frames-none ix w f n so e = rw e

module _ (ix : Index) (w : Window) (f n : ℕ) (old : List Float) where
  pub record Summing (g : ℕ) (out : List Float) : Type 0 where
    pub most : g ≤ n
    pub size : length out ≡ length old
    pub left : (k : ℕ) → k < scans_of w → add_frames ix (at_scan w (w.scan_lo + k)) (n - g) (f + g) (at out k) ≡ add_frames ix (at_scan w (w.scan_lo + k)) n f 𝟎
    pub rest : drop (scans_of w) out ≡ drop (scans_of w) old

  module _ (first : List Float) (m : ℕ) (e : m ≡ scans_of w) (z : Stepped (λ _ _. 𝟎) m first old) where
    pub summing-end : (g : ℕ) (out : List Float) → Summing g out → n ≤ g → scans_of w ≤ length first → out ≡ scan_sums ix w f n ++ drop (scans_of w) first
    unfolding scan_sums
    summing-end g out d h room =
        let size : length out ≡ length old = d.size in
        let size' : length old ≡ length first = z.size in
        let sums : ℕ → Float = λ (k : ℕ). add_frames ix (at_scan w (w.scan_lo + k)) n f 𝟎 in
        sym (take-append-drop (scans_of w) out)
        ∙ ap (λ (x : List Float). x ++ drop (scans_of w) out) (front-map out nan sums (scans_of w) (omega arith) (λ k l. sym (frames-none ix (at_scan w (w.scan_lo + k)) (f + g) (n - g) (at out k) (omega arith)) ∙ d.left k l))
        ∙ ap (λ (x : List Float). map sums (up_to (scans_of w)) ++ x) (d.rest ∙ rw (sym e) z.rest)

  pub summing-more : (g : ℕ) (p : Span) (out new : List Float) → Summing g out → g < n → PointsOf ix w (f + g) p
      → Stepped (λ k. add_points ix (at_scan w (w.scan_lo + k)) (p.to - p.from) p.from) (scans_of w) out new → Summing (g + 1) new
  summing-more g p out new d h q s =
      record {
        most = omega arith;
        size = s.size ∙ d.size;
        left = λ k l.
            let a = w.scan_lo + k in
            ap (add_frames ix (at_scan w a) (n - (g + 1)) (f + (g + 1))) (s.front k l ∙ sym (q.sum a a (at out k)))
            ∙ sym (frames-step ix (at_scan w a) f n g (at out k) h)
            ∙ d.left k l;
        rest = s.rest ∙ d.rest;
      }
