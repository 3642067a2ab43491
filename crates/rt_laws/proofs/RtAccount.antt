-- The account of every qualifying retention apex of a trace.
use mathlib.Core.Path.{◌≡◌, refl, sym, ap, ◌∙◌}
use mathlib.Core.Bool.{Bool, true, false, cond, ◌&&◌}
use mathlib.Core.List.Memᴰ
use mathlib.Core.List.{List, [], ◌∷◌, ◌++◌, append_assoc, map}
use mathlib.Core.Logic.{◌↔◌, ◌≢◌}
use Prim.Native.Nat.{ℕ, zero, suc, ◌+◌, ◌-◌, ◌*◌, ◌≤◌, ◌<◌}
use native.Mathlib.Omega.{arith}
use borrow.Author.Tests.{ltb-false, le-leb}
use lib.ListN.{length, get_or, get_or-append}
use lib.Seq.{get_or-append-add}
use lib.Ieee.{Float, binary32, lt}
use Rattle.refusal.proofs.Bools.{clash}
use Rattle.numeric.specs.Arith.{at, 𝟎}
use Rattle.row_apex.specs.Apex.{candidates_to, candidates, prominence}
use Rattle.numeric.specs.Plain.{word}
use Rattle.numeric.proofs.Order.{abs-sub, not-lt}
use Rattle.row_search.specs.Account.{◌∈◌, All, Ascending, NoNan}
use Rattle.row_search.specs.Qualifying.{highest_reading, reaches, width, qualifies, that_qualify, qualifying}
use Rattle.row_search.proofs.QualifyingLaws.{qualifying-ascend, qualifying-listed, qualifying-complete}
use Rattle.rt_choice.specs.Chosen.{Distinct, passing, Accounted}
use Rattle.rt_choice.specs.Ranking.{before, ordered_by}
use Rattle.rt_choice.specs.Times.{near_in_time}
use Rattle.rt_choice.proofs.ChosenLaws.{each-imp, passing-are, passing-has, passing-each, account}
use Rattle.rt_choice.proofs.Ranking.{ordered_same, ordered-distinct, ordered-in-order, ordered-ranked}
use Rattle.rt_record.specs.RtRecord.{local_size, local_words, apex_from, local_from}
use Rattle.rt_record.specs.declared.RtLocalPeak.{RtLocalPeak}
use Rattle.rt_apex.specs.InTime.{apex_time, local_peak_of}
use Rattle.rt_search.specs.Retention.{asks, is_wide, rt_qualifying, lower, by_index, higher_first, later, earlier_first, chosen_apexes, has_shares, listed_apexes, rt_peaks}
use Rattle.rt_search.proofs.Orders.{index-strict, larger-strict, earlier-strict}
use Rattle.rt_search.proofs.Listed.{rt-no-nan, none-listed, low-none}
use Rattle.rt_peaks.specs.Trace.{peak_words}
use Rattle.rt_laws.specs.RtAccount.{Qualifies, QualifyingAre, NoneInFew, NoneBelow, no_lower, RtAccounted, AllRtAccounted, PeaksBear, WordsBear}
use Rattle.rt_apex.proofs.Laws.{local-index}

-- ---- what qualifies

prominent-only : (floor : Float) (y : List Float) (i : ℕ) → qualifies (asks floor) y i ≡ reaches floor (prominence y i)
unfolding qualifies
prominent-only floor y i = rw (le-leb 0 (width y i) (omega arith)) (go (reaches floor (prominence y i)))
  where
    go : (b : Bool) → (b && true) ≡ b
    go true = refl
    go false = refl

reached : (floor : Float) (y z : List Float) (i : ℕ) → i ∈ qualifying (asks floor) y z → reaches floor (highest_reading 𝟎 z) ≡ true
unfolding qualifying
reached floor y z i m = go (reaches floor (highest_reading 𝟎 z)) refl m
  where
    go : (b : Bool) → reaches floor (highest_reading 𝟎 z) ≡ b → i ∈ cond b (that_qualify (asks floor) y (candidates y)) [] → reaches floor (highest_reading 𝟎 z) ≡ true
    go true e n = e
    go false e n = absurd (Memᴰ.not-nil n)

pub qualifying-are : QualifyingAre
unfolding rt_qualifying
qualifying-are floor min_width y z t i = (there-is, here-is)
  where
    there-is : i ∈ passing (is_wide min_width y t) (qualifying (asks floor) y z) → Qualifies floor min_width y z t i
    there-is m =
        let p = passing-are (is_wide min_width y t) (qualifying (asks floor) y z) i m in
        let q = qualifying-listed (asks floor) y z i p.0 in
        record { raw-reaches = reached floor y z i p.0; candidate = q.0; prominent = sym (prominent-only floor y i) ∙ q.1; wide = p.1 }

    here-is : Qualifies floor min_width y z t i → i ∈ passing (is_wide min_width y t) (qualifying (asks floor) y z)
    here-is q =
        passing-has (is_wide min_width y t) (qualifying (asks floor) y z) i
        (qualifying-complete (asks floor) y z i q.raw-reaches q.candidate (prominent-only floor y i ∙ q.prominent)) q.wide

none-listed-none : (floor sep min_width : Float) (y z t : List Float) → qualifying (asks floor) y z ≡ [] → rt_peaks floor sep min_width y z t ≡ []
unfolding rt_peaks
none-listed-none floor sep min_width y z t e = ap (map (local_peak_of y z t)) (none-listed floor sep min_width y z t e)

few-candidates : (y : List Float) → length y < 3 → candidates y ≡ []
unfolding candidates_to
few-candidates y h = let e : length y - 2 ≡ 0 = omega arith in rw e

few-qualify : (floor : Float) (y z : List Float) → length y < 3 → qualifying (asks floor) y z ≡ []
unfolding qualifying that_qualify
few-qualify floor y z h = rw (few-candidates y h) (go (reaches floor (highest_reading 𝟎 z)))
  where
    go : (b : Bool) → cond {A = List ℕ} b [] [] ≡ []
    go true = refl
    go false = refl

pub none-in-few : NoneInFew
none-in-few floor sep min_width y z t h = none-listed-none floor sep min_width y z t (few-qualify floor y z h)

pub none_below : NoneBelow
none_below floor sep min_width y z t h = none-listed-none floor sep min_width y z t (low-none floor y z h)

-- ---- the account

ascending-distinct : (l : List ℕ) → Ascending l → Distinct l
ascending-distinct [] a = tt
ascending-distinct (i ∷ l) a = (λ j m e. let h = a.0 j m in omega arith, ascending-distinct l a.1)

-- what is reached later does not come first
first-later : (y t : List Float) (i j : ℕ) → later y t i j ≡ true → earlier_first y t j i ≡ true
unfolding earlier_first before
first-later y t i j e = rw e

module _ (floor sep min_width : Float) (y z t : List Float) where
  distinct : Distinct (rt_qualifying floor min_width y z t)
  unfolding rt_qualifying
  distinct =
      passing-each (is_wide min_width y t) (λ i j. i ≢ j) (qualifying (asks floor) y z)
      (ascending-distinct (qualifying (asks floor) y z) (qualifying-ascend (asks floor) y z))

  -- of the order of the choice: higher first, by index
  accounted : Accounted (near_in_time (apex_time y t) sep) (no_lower y) (has_shares y z (chosen_apexes floor sep min_width y z t)) (ordered_by (higher_first y) (rt_qualifying floor min_width y z t))
  unfolding higher_first
  accounted =
      let numbers = rt-no-nan floor min_width y z t in
      let qs = rt_qualifying floor min_width y z t in
      account (near_in_time (apex_time y t) sep) (no_lower y) (has_shares y z (chosen_apexes floor sep min_width y z t)) (ordered_by (before (lower y) by_index) qs)
      (ordered-ranked (near_in_time (apex_time y t) sep) (no_lower y) (lower y) by_index qs distinct (larger-strict (at y) qs numbers) (index-strict qs)
      (λ i m j k h. not-lt (at y i) (at y j) (numbers i m) (numbers j k) h)
      (λ i m j k. ap (λ (x : Float). lt x sep) (abs-sub binary32 (apex_time y t i) (apex_time y t j))))

  -- the order in which they are listed adds none and takes none away
  in_list : (i : ℕ) → (i ∈ listed_apexes floor sep min_width y z t) ↔ (i ∈ passing (has_shares y z (chosen_apexes floor sep min_width y z t)) (chosen_apexes floor sep min_width y z t))
  unfolding listed_apexes
  in_list i = ordered_same (earlier_first y t) (passing (has_shares y z (chosen_apexes floor sep min_width y z t)) (chosen_apexes floor sep min_width y z t)) i

  in_order : (i : ℕ) → i ∈ ordered_by (higher_first y) (rt_qualifying floor min_width y z t) → i ∈ rt_qualifying floor min_width y z t
  in_order i m = (ordered_same (higher_first y) (rt_qualifying floor min_width y z t) i).0 m

  all : RtAccounted floor sep min_width y z t
  unfolding chosen_apexes listed_apexes
  all =
      let cs = chosen_apexes floor sep min_width y z t in
      let near = near_in_time (apex_time y t) sep in
      let qs = rt_qualifying floor min_width y z t in
      let a = accounted in
      let un = passing (has_shares y z cs) cs in
      let qualify : All (λ i. i ∈ rt_qualifying floor min_width y z t) un = (λ i m. in_order i (a.chosen-some i (passing-are (has_shares y z cs) cs i m).0)) in
      let numbers : NoNan y un = (λ i m. rt-no-nan floor min_width y z t i (qualify i m)) in
      let ordered = ordered-in-order (earlier_first y t) un (earlier-strict y t un numbers) in
      record {
        chosen-qualify = λ i m. in_order i (a.chosen-some i m);
        chosen-apart = a.chosen-apart;
        listed-qualify = λ i m. qualify i ((in_list i).0 m);
        listed-distinct = ordered-distinct (earlier_first y t) un a.listed-distinct;
        listed-in-order = ordered;
        listed-by-time = each-imp (λ i j. earlier_first y t j i ≡ false) (λ i j. word (apex_time y t i) ≤ word (apex_time y t j)) (ordered_by (earlier_first y t) un)
            (λ i j m n h. ltb-false (word (apex_time y t j)) (word (apex_time y t i)) (no-later i j h)) ordered;
        listed-are = λ i. (λ m. passing-are (has_shares y z cs) cs i ((in_list i).0 m), λ h. (in_list i).1 (passing-has (has_shares y z cs) cs i h.0 h.1));
        missing = λ i m.
            let o = (ordered_same (higher_first y) qs i).1 m in
            (λ out. (a.missing i o).0 (λ n. out ((in_list i).1 n)), λ w n. (a.missing i o).1 w ((in_list i).0 n));
      }
    where
      no-later : (i j : ℕ) → earlier_first y t j i ≡ false → later y t i j ≡ false
      no-later i j h = go (later y t i j) refl
        where
          go : (b : Bool) → later y t i j ≡ b → later y t i j ≡ false
          go true e = clash (earlier_first y t j i) (first-later y t i j e) h
          go false e = e

pub rt-account : AllRtAccounted
rt-account floor sep min_width y z t = all floor sep min_width y z t

-- ---- records

frames : (y z t : List Float) (l : List ℕ) → map (λ (p : RtLocalPeak). p.apex.rt_idx) (map (local_peak_of y z t) l) ≡ l
frames y z t [] = refl
frames y z t (i ∷ l) = rw (local-index y z t i) (ap (λ (k : List ℕ). i ∷ k) (frames y z t l))

pub peaks-bear : PeaksBear
unfolding rt_peaks
peaks-bear floor sep min_width y z t = frames y z t (listed_apexes floor sep min_width y z t)

-- a word of the record at place k
pub words-at : (y z t : List Float) (l rest : List ℕ) (k j : ℕ) → k < length l → j < local_size
    → get_or (peak_words (map (local_peak_of y z t) l) ++ rest) (k * local_size + j) 0 ≡ get_or (local_words (local_peak_of y z t (get_or l k 0))) j 0
unfolding peak_words
words-at y z t [] rest k j h m = absurd (omega arith)
words-at y z t (i ∷ l) rest zero j h m =
    let W = local_words (local_peak_of y z t i) in
    let R = peak_words (map (local_peak_of y z t) l) in
    let e : 0 * local_size + j ≡ j = omega arith in
    ap (λ (n : ℕ). get_or ((W ++ R) ++ rest) n 0) e ∙ ap (λ (w : List ℕ). get_or w j 0) (append_assoc W R rest) ∙ get_or-append W (R ++ rest) 0 j m
words-at y z t (i ∷ l) rest (suc k) j h m =
    let W = local_words (local_peak_of y z t i) in
    let R = peak_words (map (local_peak_of y z t) l) in
    let e : suc k * local_size + j ≡ length W + (k * local_size + j) = omega arith in
    ap (λ (n : ℕ). get_or ((W ++ R) ++ rest) n 0) e ∙ ap (λ (w : List ℕ). get_or w (length W + (k * local_size + j)) 0) (append_assoc W R rest)
    ∙ get_or-append-add W (R ++ rest) (k * local_size + j) 0 ∙ words-at y z t l rest k j (omega arith) m

pub words-bear : WordsBear
unfolding rt_peaks local_from apex_from
words-bear floor sep min_width y z t rest k h =
    let l = listed_apexes floor sep min_width y z t in words-at y z t l rest k 0 h (omega arith) ∙ local-index y z t (get_or l k 0)
