-- The listed places are those of the listed apexes.
use mathlib.Core.Path.{◌≡◌, refl, sym, ◌∙◌, ap, subst}
use mathlib.Core.Bool.{Bool, true, false, cond}
use mathlib.Core.List.Memᴰ
use mathlib.Core.List.{List, [], ◌∷◌, ◌++◌, map, reverse, reverse-cons, reverse-reverse}
use mathlib.Core.List.Memᴰ.{head as here}
use mathlib.Core.List.Memᴰ.{tail as there}
use mathlib.Core.Logic.{⊎_elim}
use Prim.Native.Nat.{ℕ, ◌-◌, ◌*◌, ◌≤◌, ◌<◌}
use native.Mathlib.Omega.{arith}
use native.Mathlib.Nat.{add-zero}
use borrow.Author.Tests.{eqb-true, eqb-false, ltb-true, ltb-false, lt-ltb, le-ltb, leb-true}
use lib.Dec.{eqb, ltb}
use lib.ListN.{length, take, length-map, length-reverse}
use lib.Ieee.{Float, binary32, to_bits}
use Rattle.limits.specs.Limits.{any_number, exact_index}
use Rattle.numeric.specs.Arith.{at, 𝟎}
use Rattle.numeric.specs.Numeric.{in_range}
use Rattle.numeric.specs.Plain.{word, word_in, Plain, AllPlain}
use Rattle.numeric.proofs.Patterns.{lt-bits}
use Rattle.sort_digits.specs.Sorted.{lex_lt, up_to, sorted_by}
use Rattle.sort_digits.proofs.SortedLaws.{sort-given, sort-length}
use Rattle.sort_digits.proofs.UpTo.{upto-lt}
use Rattle.row_params.specs.Params.{most_peaks}
use Rattle.row_search.specs.Account.{◌∈◌, All, Ascending, NoNan}
use Rattle.row_search.specs.Qualifying.{highest_reading, reaches, qualifying, kept}
use Rattle.row_search.specs.Found.{found_size, measured_of, measured_from, measured_at, FoundAt, Found, Done}
use Rattle.row_search.specs.declared.inner.Measured.{Measured}
use Rattle.row_search.proofs.Account.{all-kept}
use Rattle.row_search.proofs.QualifyingLaws.{qualifying-ascend, qualifying-no-nan, kept-count}
use Rattle.rt_choice.specs.Chosen.{Each, choose_all, chosen, passing}
use Rattle.rt_choice.specs.Ranking.{ordered_by}
use Rattle.rt_choice.specs.Times.{near_in_time}
use Rattle.rt_choice.proofs.ChosenLaws.{each-imp, chosen-each, passing-each, passing-are}
use Rattle.rt_choice.proofs.Ranking.{ordered-in-order}
use Rattle.rt_choice.proofs.Places.{map-passing, map-chosen, map-ordered}
use Rattle.rt_apex.specs.InTime.{apex_time, apex_area}
use Rattle.rt_apex.specs.Steps.{Inside as Whole}
use Rattle.rt_apex.proofs.Laws.{left_is, right_is, area-is}
use Rattle.rt_listing.specs.Shares.{trace_area, best_area}
use Rattle.rt_search.specs.Retention.{asks, is_wide, rt_qualifying, lower, by_index, higher_first, later, earlier_first, chosen_apexes, has_shares, listed_apexes}
use Rattle.rt_listing.specs.Places.{index_at, area_at, wide, wide_at, height_word, time_at_place, by_height, by_time, chosen_places, shares_at, with_shares, listed_places}
use Rattle.rt_search.specs.Steps.{Stands, AllStand, RtFound}
use Rattle.rt_search.proofs.Orders.{higher-strict, first-decides}
use Rattle.rt_listing.proofs.Laws.{largest-same, front_below, chosen-places, shares-places, chosen-places-few, shares-few, some_below, some-few}
use Rattle.std.proofs.lemmas.List.{map-append, nil_from_length}
use Rattle.row_search.proofs.Laws.{measured-index}

-- ---- lists of places

mem-map : (f : ℕ → ℕ) (l : List ℕ) (p : ℕ) → p ∈ l → f p ∈ map f l
mem-map f [] p m = absurd (Memᴰ.not-nil m)
mem-map f (x ∷ l) p m = ⊎_elim (λ (e : p ≡ x). here (ap f e)) (λ n. there (mem-map f l p n)) (Memᴰ.cases_cons m)

each_map : (R : ℕ → ℕ → Type 0) (f : ℕ → ℕ) (l : List ℕ) → Each R (map f l) → Each (λ p q. R (f p) (f q)) l
each_map R f [] e = tt
each_map R f (p ∷ l) e = (λ q m. e.0 (f q) (mem-map f l q m), each_map R f l e.1)

ascending-each : (l : List ℕ) → Ascending l → Each (λ i j. i < j) l
ascending-each [] a = tt
ascending-each (i ∷ l) a = (a.0, ascending-each l a.1)

-- ---- apexes that stand in a list

index_is : (found : List ℕ) (p : ℕ) → (measured_at found p).index ≡ index_at found p
unfolding measured_from
index_is found p = rw add-zero

found-index : (y z : List Float) (found : List ℕ) (i p : ℕ) → FoundAt y z found i p → index_at found p ≡ i
found-index y z found i p h = sym (index_is found p) ∙ ap (λ (m : Measured). m.index) h.is ∙ measured-index y z i

found-stands : (y z : List Float) (found ks : List ℕ) → Found y z found ks → length ks * found_size ≤ length found → AllStand y z found (length ks)
found-stands y z found [] f r p h = absurd (omega arith)
found-stands y z found (i ∷ older) f r p h = go (eqb p (length older)) refl (found-stands y z found older f.1 (omega arith) p)
  where
    go : (b : Bool) → eqb p (length older) ≡ b → (p < length older → Stands y z found p) → Stands y z found p
    go true e rest =
        let q : p ≡ length older = eqb-true p (length older) e in
        let a = f.0 in
        let x : index_at found (length older) ≡ i = found-index y z found i (length older) a in
        subst (Stands y z found) (sym q)
        (record {
          inside = record { room = omega arith; low = omega (arith, x, a.low); high = omega (arith, x, a.high) };
          is = a.is ∙ ap (measured_of y z) (sym x);
        })
    go false e rest = rest (let ne : p ≡ length older → ⊥ = eqb-false p (length older) e in omega arith)

found-places : (y z : List Float) (found ks : List ℕ) → Found y z found ks → map (index_at found) (up_to (length ks)) ≡ reverse ks
unfolding up_to
found-places y z found [] f = refl
found-places y z found (i ∷ older) f =
    map-append (index_at found) (up_to (length older)) (length older ∷ [])
    ∙ ap (λ (k : List ℕ). k ++ (index_at found (length older) ∷ [])) (found-places y z found older f.1)
    ∙ ap (λ (x : ℕ). reverse older ++ (x ∷ [])) (found-index y z found i (length older) f.0)
    ∙ sym (reverse-cons i older)

-- an apex that is read from its place
module _ (found : List ℕ) (p : ℕ) (a : Measured) (e : a ≡ measured_at found p) where
  pub read-index : a.index ≡ index_at found p
  read-index = ap (λ (m : Measured). m.index) e ∙ index_is found p

  pub read_whole : (y z t : List Float) → Stands y z found p → length z ≡ length y → length t ≡ length y → length y ≤ exact_index → Whole y z t a
  read_whole y z t s f g h =
      record {
        is = e ∙ s.is ∙ ap (measured_of y z) (sym read-index);
        low = omega (arith, s.inside.low, read-index);
        high = omega (arith, s.inside.high, read-index);
        raw = f;
        times = g;
        short = h;
      }

-- ---- keys

lex-one : (a b : ℕ) → lex_lt (a ∷ []) (b ∷ []) ≡ ltb a b
unfolding lex_lt
lex-one a b = go (eqb a b) refl
  where
    go : (c : Bool) → eqb a b ≡ c → cond c false (ltb a b) ≡ ltb a b
    go true e = sym (le-ltb a b (let q = eqb-true a b e in omega arith))
    go false e = refl

turned : (top a b : ℕ) → a ≤ top → b ≤ top → ltb (top - b) (top - a) ≡ ltb a b
turned top a b g h = go (ltb a b) refl
  where
    go : (c : Bool) → ltb a b ≡ c → ltb (top - b) (top - a) ≡ c
    go true e = let l = ltb-true a b e in lt-ltb (top - b) (top - a) (omega arith)
    go false e = let l = ltb-false a b e in le-ltb (top - b) (top - a) (omega arith)

plain_word : (x : Float) → Plain x → word x ≤ any_number
unfolding in_range
plain_word x p = leb-true (to_bits binary32 x) any_number p.ranged

-- the heights of qualifying apexes are numbers
pub rt-no-nan : (floor min_width : Float) (y z t : List Float) → NoNan y (rt_qualifying floor min_width y z t)
unfolding rt_qualifying
rt-no-nan floor min_width y z t i m =
    qualifying-no-nan (asks floor) y z i (passing-are (is_wide min_width y t) (qualifying (asks floor) y z) i m).0

-- ---- what was found of a trace with a floor
module _ (floor sep min_width : Float) (y z t : List Float) (found : List ℕ) (m : ℕ) (done : Done (asks floor) y z found m) (plain : AllPlain y) where
  kept-all : kept (asks floor) y z ≡ reverse (qualifying (asks floor) y z)
  unfolding kept
  kept-all = all-kept 0 y (qualifying (asks floor) y z) (omega arith) (qualifying-ascend (asks floor) y z)

  stands : Found y z found (reverse (qualifying (asks floor) y z))
  stands = subst (Found y z found) kept-all done.stand

  count : m ≡ length (reverse (qualifying (asks floor) y z))
  count = done.count ∙ ap length kept-all

  pub few : m ≤ most_peaks (length y)
  few = let a = kept-count (asks floor) y z in omega (arith, done.count)

  pub all-stand : AllStand y z found m
  all-stand = subst (AllStand y z found) (sym count) (found-stands y z found (reverse (qualifying (asks floor) y z)) stands (subst (λ (k : ℕ). k * found_size ≤ length found) count done.room))

  places : map (index_at found) (up_to m) ≡ qualifying (asks floor) y z
  places =
      ap (λ (k : ℕ). map (index_at found) (up_to k)) count
      ∙ found-places y z found (reverse (qualifying (asks floor) y z)) stands
      ∙ reverse-reverse (qualifying (asks floor) y z)

  ascend : Each (λ p q. index_at found p < index_at found q) (up_to m)
  ascend =
      each_map (λ i j. i < j) (index_at found) (up_to m)
      (subst (Each (λ i j. i < j)) (sym places) (ascending-each (qualifying (asks floor) y z) (qualifying-ascend (asks floor) y z)))

  -- ---- wide enough
  wide-same : (p : ℕ) → p < m → wide_at found t (length y) min_width p ≡ is_wide min_width y t (index_at found p)
  unfolding wide is_wide
  wide-same p h =
      let s = all-stand p h in
      let i = index_at found p in
      let el = ap (λ (a : Measured). a.left_x) s.is ∙ left_is y z i in
      let er = ap (λ (a : Measured). a.right_x) s.is ∙ right_is y z i in
      rw (el, er)

  wide-places : map (index_at found) (passing (wide_at found t (length y) min_width) (up_to m)) ≡ rt_qualifying floor min_width y z t
  unfolding rt_qualifying
  wide-places =
      map-passing (index_at found) (wide_at found t (length y) min_width) (is_wide min_width y t) (up_to m) (λ p i. wide-same p (upto-lt m p i))
      ∙ ap (passing (is_wide min_width y t)) places

  wide-ascend : Each (λ p q. index_at found p < index_at found q) (passing (wide_at found t (length y) min_width) (up_to m))
  wide-ascend = passing-each (wide_at found t (length y) min_width) (λ p q. index_at found p < index_at found q) (up_to m) ascend

  -- ---- by height
  height-plain : (p : ℕ) → p < m → Plain (at y (index_at found p))
  height-plain p h = let g = (all-stand p h).inside.high in plain (index_at found p) (omega arith)

  heights-agree : (p q : ℕ) → p < m → q < m → index_at found p < index_at found q → lex_lt (by_height y found q) (by_height y found p) ≡ higher_first y (index_at found q) (index_at found p)
  unfolding higher_first
  heights-agree p q g h b =
      let i = index_at found p in
      let j = index_at found q in
      let pi = height-plain p g in
      let pj = height-plain q h in
      lex-one (height_word y found q) (height_word y found p)
      ∙ turned any_number (word_in y i) (word_in y j) (plain_word (at y i) pi) (plain_word (at y j) pj)
      ∙ sym (lt-bits (at y i) (at y j) pi pj)
      ∙ sym (first-decides (lower y) by_index j i (le-ltb j i (omega arith)))

  ordered-places : map (index_at found) (sorted_by (by_height y found) (passing (wide_at found t (length y) min_width) (up_to m))) ≡ ordered_by (higher_first y) (rt_qualifying floor min_width y z t)
  ordered-places =
      let below = some_below (wide_at found t (length y) min_width) m in
      map-ordered (index_at found) (by_height y found) (higher_first y) (passing (wide_at found t (length y) min_width) (up_to m))
      (each-imp (λ p q. index_at found p < index_at found q) (λ p q. lex_lt (by_height y found q) (by_height y found p) ≡ higher_first y (index_at found q) (index_at found p))
      (passing (wide_at found t (length y) min_width) (up_to m)) (λ p q i j h. heights-agree p q (below p i) (below q j) h) wide-ascend)
      ∙ ap (ordered_by (higher_first y)) wide-places

  -- ---- chosen
  chosen-apexes : map (index_at found) (chosen_places sep y t found (passing (wide_at found t (length y) min_width) (up_to m))) ≡ chosen_apexes floor sep min_width y z t
  unfolding chosen_places chosen_apexes
  chosen-apexes =
      let S = sorted_by (by_height y found) (passing (wide_at found t (length y) min_width) (up_to m)) in
      map-chosen (index_at found) (near_in_time (time_at_place y t found) sep) (near_in_time (apex_time y t) sep) (λ p. Unit {0}) (λ p q a b. refl) S (λ p i. tt)
      ∙ ap (chosen (near_in_time (apex_time y t) sep)) ordered-places

  chosen-below : All (λ p. p < m) (chosen_places sep y t found (passing (wide_at found t (length y) min_width) (up_to m)))
  chosen-below = chosen-places (λ p. p < m) sep y t found (passing (wide_at found t (length y) min_width) (up_to m)) (some_below (wide_at found t (length y) min_width) m)

  -- they stand in the order of the choice
  chosen-ordered : Each (λ p q. higher_first y (index_at found q) (index_at found p) ≡ false) (chosen_places sep y t found (passing (wide_at found t (length y) min_width) (up_to m)))
  unfolding chosen_places
  chosen-ordered =
      let S = sorted_by (by_height y found) (passing (wide_at found t (length y) min_width) (up_to m)) in
      let apexes = rt_qualifying floor min_width y z t in
      chosen-each (near_in_time (time_at_place y t found) sep) (λ p q. higher_first y (index_at found q) (index_at found p) ≡ false) S
      (each_map (λ i j. higher_first y j i ≡ false) (index_at found) S
      (subst (Each (λ i j. higher_first y j i ≡ false)) (sym ordered-places) (ordered-in-order (higher_first y) apexes (higher-strict y apexes (rt-no-nan floor min_width y z t)))))

  -- ---- shares
  area_same : (p : ℕ) → p < m → area_at found p ≡ apex_area y z (index_at found p)
  unfolding measured_from
  area_same p h = ap (λ (a : Measured). a.area) (all-stand p h).is ∙ area-is y z (index_at found p)

  best-same : best_area (area_at found) (chosen_places sep y t found (passing (wide_at found t (length y) min_width) (up_to m))) ≡ best_area (apex_area y z) (chosen_apexes floor sep min_width y z t)
  unfolding best_area
  best-same =
      let cs = chosen_places sep y t found (passing (wide_at found t (length y) min_width) (up_to m)) in
      rw (largest-same (area_at found) (apex_area y z) (index_at found) 𝟎 cs (λ p i. area_same p (chosen-below p i)), chosen-apexes)

  shares-apexes : map (index_at found) (with_shares z found (chosen_places sep y t found (passing (wide_at found t (length y) min_width) (up_to m))))
      ≡ passing (has_shares y z (chosen_apexes floor sep min_width y z t)) (chosen_apexes floor sep min_width y z t)
  unfolding with_shares
  shares-apexes =
      let cs = chosen_places sep y t found (passing (wide_at found t (length y) min_width) (up_to m)) in
      let all = chosen_apexes floor sep min_width y z t in
      map-passing (index_at found) (shares_at (trace_area z) (best_area (area_at found) cs) found) (has_shares y z all) cs
      (λ p i. rw (best-same, area_same p (chosen-below p i)))
      ∙ ap (passing (has_shares y z all)) chosen-apexes

  shares-ordered : Each (λ p q. higher_first y (index_at found q) (index_at found p) ≡ false) (with_shares z found (chosen_places sep y t found (passing (wide_at found t (length y) min_width) (up_to m))))
  unfolding with_shares
  shares-ordered =
      let cs = chosen_places sep y t found (passing (wide_at found t (length y) min_width) (up_to m)) in
      passing-each (shares_at (trace_area z) (best_area (area_at found) cs) found) (λ p q. higher_first y (index_at found q) (index_at found p) ≡ false) cs chosen-ordered

  -- ---- by time
  times-agree : (p q : ℕ) → higher_first y (index_at found q) (index_at found p) ≡ false → lex_lt (by_time y t found q) (by_time y t found p) ≡ earlier_first y t (index_at found q) (index_at found p)
  unfolding earlier_first
  times-agree p q h =
      lex-one (word (time_at_place y t found q)) (word (time_at_place y t found p))
      ∙ sym (first-decides (later y t) (higher_first y) (index_at found q) (index_at found p) h)

  pub listed-apexes : map (index_at found) (listed_places sep min_width y z t found m) ≡ listed_apexes floor sep min_width y z t
  unfolding listed_places listed_apexes
  listed-apexes =
      let X = with_shares z found (chosen_places sep y t found (passing (wide_at found t (length y) min_width) (up_to m))) in
      map-ordered (index_at found) (by_time y t found) (earlier_first y t) X
      (each-imp (λ p q. higher_first y (index_at found q) (index_at found p) ≡ false) (λ p q. lex_lt (by_time y t found q) (by_time y t found p) ≡ earlier_first y t (index_at found q) (index_at found p))
      X (λ p q i j h. times-agree p q h) shares-ordered)
      ∙ ap (ordered_by (earlier_first y t)) shares-apexes

  listed_below : All (λ p. p < m) (listed_places sep min_width y z t found m)
  unfolding listed_places
  listed_below p i =
      let X = with_shares z found (chosen_places sep y t found (passing (wide_at found t (length y) min_width) (up_to m))) in
      shares-places (λ p. p < m) z found (chosen_places sep y t found (passing (wide_at found t (length y) min_width) (up_to m))) chosen-below p (sort-given (by_time y t found) X p i)

  listed-few : length (listed_places sep min_width y z t found m) ≤ m
  unfolding listed_places
  listed-few =
      let w = passing (wide_at found t (length y) min_width) (up_to m) in
      let cs = chosen_places sep y t found w in
      let a = sort-length (by_time y t found) (with_shares z found cs) in
      let b = shares-few z found cs in
      let c = chosen-places-few sep y t found w in
      let d = some-few (wide_at found t (length y) min_width) m in
      omega arith

  pub rt-found : (order : List ℕ) (n : ℕ) → n ≡ length (listed_places sep min_width y z t found m) → take n order ≡ listed_places sep min_width y z t found m → m ≤ length order
      → RtFound floor sep min_width y z t found order n
  rt-found order n e f l =
      let a : length (listed_apexes floor sep min_width y z t) ≡ n = sym (ap length listed-apexes) ∙ length-map (listed_places sep min_width y z t found m) (index_at found) ∙ sym e in
      record {
        count = sym a;
        few = omega (arith, e, listed-few, few);
        room = omega (arith, e, listed-few);
        apexes = ap (map (index_at found)) f ∙ listed-apexes;
        stand = front_below (Stands y z found) order (listed_places sep min_width y z t found m) n f e (λ p i. all-stand p (listed_below p i));
      }

-- no apex that qualifies, none that is listed
pub none-listed : (floor sep min_width : Float) (y z t : List Float) → qualifying (asks floor) y z ≡ [] → listed_apexes floor sep min_width y z t ≡ []
unfolding rt_qualifying chosen_apexes listed_apexes passing ordered_by choose_all
none-listed floor sep min_width y z t e = rw e

pub none_found : (floor sep min_width : Float) (y z t : List Float) (found order : List ℕ) → qualifying (asks floor) y z ≡ [] → RtFound floor sep min_width y z t found order 0
none_found floor sep min_width y z t found order e =
    let n = none-listed floor sep min_width y z t e in
    record { count = rw n; few = omega arith; room = omega arith; apexes = sym n; stand = λ k h. absurd (omega arith) }

pub low-none : (floor : Float) (y z : List Float) → reaches floor (highest_reading 𝟎 z) ≡ false → qualifying (asks floor) y z ≡ []
unfolding qualifying
low-none floor y z h = rw h

pub few-none : (floor : Float) (y z : List Float) (found : List ℕ) (m : ℕ) → Done (asks floor) y z found m → m ≡ 0 → qualifying (asks floor) y z ≡ []
unfolding kept
few-none floor y z found m done e =
    let qs = qualifying (asks floor) y z in
    let k = all-kept 0 y qs (omega arith) (qualifying-ascend (asks floor) y z) in
    nil_from_length qs (sym (length-reverse qs) ∙ ap length (sym k) ∙ sym done.count ∙ e)
