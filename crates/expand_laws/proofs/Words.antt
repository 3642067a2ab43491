-- Retention peaks as they are read from the words of a list, wherever they stand in it.
use mathlib.Core.Path.{◌≡◌, refl, sym, ap, ◌∙◌}
use mathlib.Core.List.{List, [], ◌∷◌, ◌++◌, append_assoc}
use Prim.Native.Nat.{ℕ, zero, suc, ◌<◌, ◌+◌, ◌*◌}
use native.Mathlib.Omega.{arith}
use lib.ListN.{length, get_or, drop, get_or-append}
use lib.Seq.{drop_at, get_or-drop, get_or-append-add}
use Rattle.row_record.specs.declared.ImPeak1D.{ImPeak1D}
use Rattle.rt_record.specs.RtRecord.{rt_words}
use Rattle.rt_record.specs.declared.RtApex.{RtApex}
use Rattle.rt_record.specs.declared.RtPeak1D.{RtPeak1D}
use Rattle.expand_placed.specs.Placed.{placed}
use Rattle.expand_trace.specs.FallbackPeaks.{placed_all, peak_words}

-- a word of peak k
words-at : (ps : List RtPeak1D) (rest : List ℕ) (k j : ℕ) (d : RtPeak1D) → k < length ps → j < 22 → get_or (peak_words ps ++ rest) (k * 22 + j) 0 ≡ get_or (rt_words (get_or ps k d)) j 0
unfolding peak_words
words-at [] rest k j d h l = absurd (omega arith)
words-at (p ∷ ps) rest zero j d h l =
    let e : 0 * 22 + j ≡ j = omega arith in
    ap (λ (n : ℕ). get_or ((rt_words p ++ peak_words ps) ++ rest) n 0) e
    ∙ ap (λ (x : List ℕ). get_or x j 0) (append_assoc (rt_words p) (peak_words ps) rest)
    ∙ get_or-append (rt_words p) (peak_words ps ++ rest) 0 j l
words-at (p ∷ ps) rest (suc k) j d h l =
    let e : suc k * 22 + j ≡ 22 + (k * 22 + j) = omega arith in
    ap (λ (n : ℕ). get_or ((rt_words p ++ peak_words ps) ++ rest) n 0) e
    ∙ sym (get_or-drop 22 ((rt_words p ++ peak_words ps) ++ rest) (k * 22 + j) 0)
    ∙ ap (λ (x : List ℕ). get_or x (k * 22 + j) 0) (ap (drop 22) (append_assoc (rt_words p) (peak_words ps) rest) ∙ drop_at (rt_words p) (peak_words ps ++ rest) 22 refl)
    ∙ words-at ps rest k j d (omega arith) l

-- behind `from` others
pub words-behind : (front : List ℕ) (ps : List RtPeak1D) (rest : List ℕ) (from k j : ℕ) (d : RtPeak1D) → length front ≡ from * 22 → k < length ps → j < 22
    → get_or (front ++ (peak_words ps ++ rest)) ((from + k) * 22 + j) 0 ≡ get_or (rt_words (get_or ps k d)) j 0
words-behind front ps rest from k j d long h l =
    let e : (from + k) * 22 + j ≡ length front + (k * 22 + j) = omega arith in
    ap (λ (n : ℕ). get_or (front ++ (peak_words ps ++ rest)) n 0) e
    ∙ get_or-append-add front (peak_words ps ++ rest) (k * 22 + j) 0
    ∙ words-at ps rest k j d h l

-- placed apexes one by one
pub placed_at : (lo n : ℕ) (ids : List ℕ) (p : ImPeak1D) (l : List RtApex) (first k : ℕ) (a : RtApex) (d : RtPeak1D) → k < length l
    → get_or (placed_all lo n ids p l first) k d ≡ placed lo n ids p (get_or l k a) (first + k)
unfolding placed_all
placed_at lo n ids p [] first k a d h = absurd (omega arith)
placed_at lo n ids p (b ∷ l) first zero a d h = let e : first + 0 ≡ first = omega arith in rw e refl
placed_at lo n ids p (b ∷ l) first (suc k) a d h =
    let e : first + 1 + k ≡ first + suc k = omega arith in
    placed_at lo n ids p l (first + 1) k a d (omega arith) ∙ ap (placed lo n ids p (get_or l k a)) e
