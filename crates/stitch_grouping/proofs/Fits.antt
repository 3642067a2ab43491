-- Every float of a merged peak is one of binary32, if those of the members are.
use mathlib.Core.Path.{◌≡◌, refl}
use mathlib.Core.Bool.{Bool, true, false, cond}
use mathlib.Core.List.Memᴰ
use mathlib.Core.List.{List, [], ◌∷◌, foldl}
use mathlib.Core.List.Memᴰ.{head as here}
use mathlib.Core.List.Memᴰ.{tail as there}
use mathlib.Core.Logic.{⊎_elim}
use Prim.Native.Nat.{ℕ, zero, suc}
use lib.Dec.{T}
use lib.Ieee.{Float, binary32, fits, is_nan, lt}
use lib.Ieee.Bits.{of_bits-fits}
use lib.Ieee.Fits.{cond-fits, add-fits, div-fits, of_int-fits}
use Rattle.numeric.specs.Arith.{◌⊕◌, 𝟎}
use Rattle.numeric.specs.Numeric.{max_f}
use Rattle.row_record.specs.Record.{has_mobility}
use Rattle.row_record.specs.RoundTrip.{FloatsFit}
use Rattle.row_record.proofs.RoundTrip.{read_fits}
use Rattle.row_record.specs.declared.ImPeak1D.{ImPeak1D}
use Rattle.stitch_peaks.specs.PeakList.{no_peak, nth}
use Rattle.stitch_peaks.specs.PeakListLaws.{AllFit}
use Rattle.stitch_merging.specs.Merging.{merged, highest_f, summed, having, first_of, first_mobility, any_sigma, mean_sigma}
use Rattle.stitch_grouping.specs.Grouping.{peaks_at, group_peaks}
use Rattle.stitch_grouping.specs.GroupingLaws.{GroupsFit}

highest-fits : (f : ImPeak1D → Float) → ((p : ImPeak1D) → FloatsFit p → T (fits binary32 (f p))) → (qs : List ImPeak1D) → AllFit qs → (x : Float) → T (fits binary32 x)
    → T (fits binary32 (foldl (λ so p. max_f so (f p)) x qs))
unfolding max_f
highest-fits f h [] a x k = k
highest-fits f h (q ∷ qs) a x k =
    let y = f q in
    let own : T (fits binary32 y) = h q (a q (here refl)) in
    let higher : T (fits binary32 (max_f x y)) = cond-fits binary32 (is_nan x) y (cond (lt x y) y x) own (cond-fits binary32 (lt x y) y x own k) in
    highest-fits f h qs (λ p m. a p (there m)) (max_f x y) higher

sum_fits : (f : ImPeak1D → Float) (qs : List ImPeak1D) (x : Float) → T (fits binary32 x) → T (fits binary32 (foldl (λ so p. so ⊕ f p) x qs))
sum_fits f [] x k = k
sum_fits f (p ∷ qs) x k = sum_fits f qs (x ⊕ f p) (add-fits binary32 x (f p))

mobility-fits : (qs : List ImPeak1D) → AllFit qs → T (fits binary32 (first_mobility qs))
unfolding first_of having
mobility-fits [] a = of_bits-fits binary32 0
mobility-fits (q ∷ qs) a = go (has_mobility q) (mobility-fits qs (λ p m. a p (there m)))
  where
    go : (b : Bool) → T (fits binary32 (first_mobility qs)) → T (fits binary32 (first_of 𝟎 (λ p. p.mobility) (cond b (q ∷ having has_mobility qs) (having has_mobility qs))))
    go true h = (a q (here refl)).mobility
    go false h = h

pub merged-fits : (qs : List ImPeak1D) → AllFit qs → FloatsFit (merged qs)
unfolding merged highest_f summed
merged-fits qs a =
    record {
      sigma = cond-fits binary32 (any_sigma qs) (mean_sigma qs) 𝟎 (div-fits binary32 _ _) (of_bits-fits binary32 0);
      mobility = mobility-fits qs a;
      smoothed = highest-fits (λ p. p.apex_smoothed) (λ p h. h.smoothed) qs a _ (of_bits-fits binary32 _);
      raw = highest-fits (λ p. p.apex_raw) (λ p h. h.raw) qs a _ (of_bits-fits binary32 _);
      prominence = highest-fits (λ p. p.prominence) (λ p h. h.prominence) qs a _ (of_bits-fits binary32 _);
      left = of_int-fits binary32 _;
      right = of_int-fits binary32 _;
      area = sum_fits (λ p. p.area_raw) qs 𝟎 (of_bits-fits binary32 0);
      subscan = div-fits binary32 _ _;
    }

-- the peak at a place, or the one that stands for none
nth-fits : (ps : List ImPeak1D) → AllFit ps → (k : ℕ) → FloatsFit (nth ps k)
unfolding no_peak
nth-fits [] a k = read_fits [] 0
nth-fits (p ∷ ps) a zero = a p (here refl)
nth-fits (p ∷ ps) a (suc k) = nth-fits ps (λ q m. a q (there m)) k

members-fit : (ps : List ImPeak1D) → AllFit ps → (g : List ℕ) → AllFit (peaks_at ps g)
members-fit ps a [] p m = absurd (Memᴰ.not-nil m)
members-fit ps a (k ∷ g) p m = ⊎_elim (λ (e : p ≡ nth ps k). rw e (nth-fits ps a k)) (members-fit ps a g p) (Memᴰ.cases_cons m)

pub groups-fit : GroupsFit
unfolding group_peaks
groups-fit ps [] a p m = absurd (Memᴰ.not-nil m)
groups-fit ps (g ∷ gs) a p m =
    ⊎_elim (λ (e : p ≡ merged (peaks_at ps g)). rw e (merged-fits (peaks_at ps g) (members-fit ps a g))) (groups-fit ps gs a p) (Memᴰ.cases_cons m)
