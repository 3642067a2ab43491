-- A group that lies within the limits with a peak holds no member whose row is too far from that peak's.
use mathlib.Core.Path.{◌≡◌, refl, sym, ap, ◌∙◌}
use mathlib.Core.Bool.{Bool, true, false, ◌&&◌, ◌||◌}
use mathlib.Core.List.{List, ◌∷◌, Memᴰ}
use Prim.Native.Nat.{ℕ, ◌≤◌, ◌-◌}
use native.Mathlib.Omega.{arith}
use borrow.Author.Tests.{le-leb, leb-true}
use lib.Dec.{leb, eqb}
use Rattle.refusal.proofs.Bools.{both}
use Rattle.row_record.specs.declared.ImPeak1D.{ImPeak1D}
use Rattle.stitch_peaks.proofs.Extremes.{lowest-below, highest-above}
use Rattle.stitch_matching.specs.declared.StitchParams.{StitchParams}
use Rattle.stitch_matching.specs.declared.inner.Spans.{Spans}
use Rattle.stitch_matching.specs.Matching.{at_most, rows_near, same_group, frames_overlap, scans_overlap, apexes_inside, compatible}
use Rattle.stitch_matching.specs.Group.{Covers, row_span, scan_span, within_limits, may_join}
use Rattle.std.proofs.Math.Bool.{and-true, and-false}

at-most-below : (limit m n : ℕ) → m ≤ n → at_most limit n ≡ true → at_most limit m ≡ true
unfolding at_most
at-most-below limit m n l h = go (eqb limit 0) refl h
  where
    go : (z : Bool) → eqb limit 0 ≡ z → (z || leb n limit) ≡ true → (z || leb m limit) ≡ true
    go true e k = refl
    go false e k = le-leb m limit (omega (arith, leb-true n limit k))

-- the rows of a peak and of a member are near each other
rows-within : (params : StitchParams) (last p : ImPeak1D) (ps : List ImPeak1D) (scans : ℕ)
    → within_limits params (row_span (p ∷ last ∷ ps)) scans ≡ true → rows_near params last p ≡ true
unfolding within_limits rows_near row_span
rows-within params last p ps scans h =
    let row : ImPeak1D → ℕ = λ q. q.tof_row in
    let all = p ∷ last ∷ ps in
    let first : Memᴰ p all = mathlib.Core.List.Memᴰ.head refl in
    let second : Memᴰ last all = mathlib.Core.List.Memᴰ.tail (mathlib.Core.List.Memᴰ.head refl) in
    at-most-below _ _ _ (omega (arith, lowest-below row p all first, lowest-below row last all second, highest-above row p all first, highest-above row last all second)) (both (at_most _ _) h).0

-- a test that follows from the last need not be asked, and the last may be asked first
last-first : (a b c d e t : Bool) → (t ≡ true → b ≡ true) → (a && b && c && d && e && t) ≡ t && (a && c && d && e)
last-first a b c d e true h = rw (h refl, and-true, and-true)
last-first a b c d e false h = and-false (a && b && c && d && e)

-- So the limits of the whole group may be looked at first, and the rows of the two need not be. Here w holds the extremes of all.
pub join-tests : (params : StitchParams) (w : Spans) (last p : ImPeak1D) (ps : List ImPeak1D) → Covers w (p ∷ last ∷ ps)
    → may_join params (last ∷ ps) p
    ≡ within_limits params (w.max_row - w.min_row) (w.max_scan - w.min_scan)
    && (same_group params last p && frames_overlap params last p && scans_overlap params last p && apexes_inside params last p)
unfolding may_join compatible row_span scan_span
join-tests params w last p ps h =
    let all = p ∷ last ∷ ps in
    rw (h.min_row, h.max_row, h.min_scan, h.max_scan)
    (last-first (same_group params last p) (rows_near params last p) (frames_overlap params last p) (scans_overlap params last p) (apexes_inside params last p) (within_limits params (row_span all) (scan_span all)) (rows-within params last p ps (scan_span all)))

-- the tests one after the other
in-turn : (f a b c d : Bool) → ((f && a) && b) && c && d ≡ f && (a && b && c && d)
in-turn false a b c d = refl
in-turn true false b c d = refl
in-turn true true false c d = refl
in-turn true true true c d = refl

-- The answer r of the tests one after the other, of which the limits of the whole group come first, where w is s widened by the peak; u, v and x
-- are what the tests say together so far.
pub joined : (params : StitchParams) (s w : Spans) (last p next : ImPeak1D) (fit u v x r : Bool)
    → ((q : ImPeak1D) (ps : List ImPeak1D) → Covers s (q ∷ ps) → Covers w (next ∷ (q ∷ ps))) → next ≡ p
    → fit ≡ within_limits params (w.max_row - w.min_row) (w.max_scan - w.min_scan)
    → u ≡ fit && same_group params last p → v ≡ u && frames_overlap params last p → x ≡ v && scans_overlap params last p → r ≡ x && apexes_inside params last p
    → (ps : List ImPeak1D) → Covers s (last ∷ ps) → r ≡ may_join params (last ∷ ps) p
joined params s w last p next fit u v x r wider same f a b c d ps h =
    let others : Bool = same_group params last p && frames_overlap params last p && scans_overlap params last p && apexes_inside params last p in
    let e : r ≡ fit && others = rw (d, c, b, a) (in-turn fit (same_group params last p) (frames_overlap params last p) (scans_overlap params last p) (apexes_inside params last p)) in
    e ∙ ap (λ (t : Bool). t && others) f ∙ sym (join-tests params w last p ps (rw same at (wider last ps h)))
