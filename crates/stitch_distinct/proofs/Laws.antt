-- Identities in order.
use mathlib.Core.Path.{◌≡◌, refl, sym, ap, ◌∙◌}
use mathlib.Core.Bool.{Bool, true, false, cond, not, ◌&&◌, ◌||◌}
use mathlib.Core.List.{List, [], ◌∷◌, ◌++◌, map, Memᴰ}
use mathlib.Core.List.Memᴰ.{head as here}
use mathlib.Core.List.Memᴰ.{tail as there}
use Prim.Native.Nat.{ℕ, zero, suc, ◌+◌, ◌-◌, ◌<◌, ◌≤◌}
use native.Mathlib.Omega.{arith}
use borrow.Author.Tests.{eqb-true, eqb-false, eq-eqb, ne_eqb, ltb-true, ltb-false}
use lib.Dec.{eqb, ltb}
use lib.ListN.{length, get_or, take, drop, length-map, take-append-drop}
use lib.Seq.{take_all, length-take-le}
use Rattle.std.specs.List.{list_all, range_with_len}
use Rattle.refusal.proofs.Bools.{clash, both}
use Rattle.row_record.specs.Record.{id_at, peak_from}
use Rattle.row_record.specs.declared.ImPeak1D.{ImPeak1D}
use Rattle.stitch_peaks.specs.PeakList.{nth, peaks_of}
use Rattle.stitch_peaks.proofs.PeakListLaws.{peaks-length, nth-peaks}
use Rattle.sort_digits.specs.Sorted.{lex_lt, inserted, sorted_by, row, up_to, Ascending}
use Rattle.sort_digits.proofs.SortedLaws.{sort-ascending, sort-given, sort-length, sort_sorted, sort-same, lower-first, asymmetric}
use Rattle.sort_digits.proofs.UpTo.{upto-length, upto-lt, front-map}
use Rattle.sort_rows.proofs.Laws.{Up, up-all, pairs}
use Rattle.stitch_keys.specs.declared.KeyRule.TheVariants.{Identity}
use Rattle.stitch_keys.specs.Keys.{key_of, width_of, key_table}
use Rattle.stitch_keys.proofs.KeysLaws.{table-sorts}
use Rattle.stitch_distinct.specs.Distinct.{is_in, distinct, distinct_ids, by_identity, differ_from, neighbours_differ}
use Rattle.stitch_distinct.proofs.DistinctLaws.{tells-distinct}

-- ---- identities that rise

-- each of the first k identities is above the one before it
abbrev pub Rises : List ℕ → ℕ → Type 0
Rises words k = (j : ℕ) → j + 1 < k → id_at words j < id_at words (j + 1)

further : (words : List ℕ) (n : ℕ) → Rises words n → (j d : ℕ) → j + d + 1 < n → id_at words j < id_at words (j + d + 1)
further words n r j zero h = let e : j + 0 ≡ j = omega arith in rw e (r j (omega arith))
further words n r j (suc d) h =
    let e : j + suc d ≡ j + d + 1 = omega arith in
    let a = further words n r j d (omega arith) in
    let b = r (j + d + 1) (omega arith) in
    rw e (omega (arith, a, b))

pub rises-distinct : (words : List ℕ) (n : ℕ) → Rises words n → distinct_ids (peaks_of words n) ≡ true
unfolding peak_from
rises-distinct words n r = tells-distinct (peaks_of words n) (λ j k a b e. same j k (rw (peaks-length words n) at a) (rw (peaks-length words n) at b) (rw (nth-peaks words n j (rw (peaks-length words n) at a), nth-peaks words n k (rw (peaks-length words n) at b)) at e))
  where
    below : (j k : ℕ) → j < k → k < n → id_at words j < id_at words k
    below j k h b = let e : k ≡ j + (k - (j + 1)) + 1 = omega arith in rw e (further words n r j (k - (j + 1)) (omega arith))

    same : (j k : ℕ) → j < n → k < n → id_at words j ≡ id_at words k → j ≡ k
    same j k a b e = go (ltb j k) refl (ltb k j) refl
      where
        go : (s : Bool) → ltb j k ≡ s → (t : Bool) → ltb k j ≡ t → j ≡ k
        go true s t u = absurd (omega (arith, below j k (ltb-true j k s) b, e))
        go false s true u = absurd (omega (arith, below k j (ltb-true k j u) a, e))
        go false s false u = omega (arith, ltb-false j k s, ltb-false k j u)

-- where each place from 1 on passes the test
pub rises-from : (words : List ℕ) (n : ℕ) → list_all (λ k. ltb (id_at words (k - 1)) (id_at words k)) (range_with_len 1 (n - 1)) ≡ true → Rises words n
rises-from words n e j h =
    let a : 1 + j - 1 ≡ j = omega arith in
    let b : 1 + j ≡ j + 1 = omega arith in
    rw (a, b) at (go (n - 1) 1 j e (omega arith))
  where
    go : (m a i : ℕ) → list_all (λ k. ltb (id_at words (k - 1)) (id_at words k)) (range_with_len a m) ≡ true → i < m → id_at words (a + i - 1) < id_at words (a + i)
    go zero a i e h = absurd (omega arith)
    go (suc m) a zero e h = let z : a + 0 ≡ a = omega arith in rw z (ltb-true _ _ (both (ltb (id_at words (a - 1)) (id_at words a)) e).0)
    go (suc m) a (suc i) e h = let z : a + suc i ≡ a + 1 + i = omega arith in rw z (go m (a + 1) i (both (ltb (id_at words (a - 1)) (id_at words a)) e).1 (omega arith))

-- the identity of a place, as a key
abbrev id_key : List ℕ → ℕ → List ℕ
id_key words k = id_at words k ∷ []

rises-up : (words : List ℕ) (n : ℕ) → Rises words n → Up (id_key words) (n - 1)
rises-up words n r k h = asymmetric (id_key words k) (id_key words (k + 1)) (lower-first (id_at words k) (id_at words (k + 1)) [] [] (r k (omega arith)))

-- the places of identities that rise are in their order
pub rises-order : (words : List ℕ) (n : ℕ) → Rises words n → by_identity (peaks_of words n) ≡ up_to n
unfolding peak_from key_of up_to
rises-order words n r =
    ap (λ m. sorted_by (λ k. key_of Identity (nth (peaks_of words n) k)) (up_to m)) (peaks-length words n)
    ∙ sort-same (λ k. key_of Identity (nth (peaks_of words n) k)) (id_key words) (up_to n) (λ p q i j. rw (nth-peaks words n p (upto-lt n p i), nth-peaks words n q (upto-lt n q j)))
    ∙ sort_sorted (id_key words) (up_to n) (up n r)
  where
    up : (m : ℕ) → Rises words m → Ascending (id_key words) (up_to m)
    up zero r = tt
    up (suc m) r = up-all (id_key words) (suc m) (suc m) (omega arith) (omega arith) (omega arith) (rises-up words (suc m) r)

-- ---- neighbours in a list that ascends

module _ (g : ℕ → ℕ) where
  -- each of them and the next
  pub pairs-differ : (l : List ℕ) → list_all (λ y. not (eqb (g y.0) (g y.1))) (pairs l) ≡ neighbours_differ (map g l)
  unfolding neighbours_differ differ_from
  pairs-differ [] = refl
  pairs-differ (x ∷ []) = refl
  pairs-differ (x ∷ y ∷ ys) = ap (λ t. not (eqb (g x) (g y)) && t) (pairs-differ (y ∷ ys))

  -- a number below all
  lower-not-in : (x : ℕ) (ps : List ℕ) → ((q : ℕ) → Memᴰ q ps → x < g q) → is_in x (map g ps) ≡ false
  unfolding is_in
  lower-not-in x [] h = refl
  lower-not-in x (p ∷ ps) h = rw (ne_eqb x (g p) (λ e. omega (arith, h p (here refl)))) (lower-not-in x ps (λ q m. h q (there m)))

  -- by one number
  not-below : (p q : ℕ) → lex_lt (g q ∷ []) (g p ∷ []) ≡ false → g p ≤ g q
  not-below p q h = go (ltb (g q) (g p)) refl
    where
      go : (t : Bool) → ltb (g q) (g p) ≡ t → g p ≤ g q
      go true t = clash _ (lower-first (g q) (g p) [] [] (ltb-true (g q) (g p) t)) h
      go false t = ltb-false (g q) (g p) t

  differ-distinct : (ps : List ℕ) → Ascending (λ p. g p ∷ []) ps → neighbours_differ (map g ps) ≡ distinct (map g ps)
  unfolding neighbours_differ differ_from distinct is_in
  differ-distinct [] a = refl
  differ-distinct (p ∷ []) a = refl
  differ-distinct (p ∷ q ∷ ps) a = go (eqb (g p) (g q)) refl (differ-distinct (q ∷ ps) a.1)
    where
      go : (t : Bool) → eqb (g p) (g q) ≡ t → differ_from (g q) (map g ps) ≡ distinct (map g (q ∷ ps))
          → (not t && differ_from (g q) (map g ps)) ≡ (not (t || is_in (g p) (map g ps)) && distinct (map g (q ∷ ps)))
      go true t e = refl
      go false t e =
          let d = eqb-false (g p) (g q) t in
          let l = not-below p q (a.0 q (here refl)) in
          e ∙ rw (lower-not-in (g p) ps (λ r m. omega (arith, not-below q r (a.1.0 r m), d, l)))

  -- ---- the order does not count

  eqb-sym : (x y : ℕ) → eqb x y ≡ eqb y x
  eqb-sym x y = go (eqb x y) refl
    where
      go : (t : Bool) → eqb x y ≡ t → t ≡ eqb y x
      go true t = sym (eq-eqb y x (sym (eqb-true x y t)))
      go false t = sym (ne_eqb y x (λ e. eqb-false x y t (sym e)))

  swap_or : (a b c : Bool) → (a || (b || c)) ≡ (b || (a || c))
  swap_or true true c = refl
  swap_or true false c = refl
  swap_or false b c = refl

  swap_and : (a b c d : Bool) → (not (a || b) && (not c && d)) ≡ (not (a || c) && (not b && d))
  swap_and true b c d = refl
  swap_and false true true d = refl
  swap_and false true false d = refl
  swap_and false false true d = refl
  swap_and false false false d = refl

  module _ (key : ℕ → List ℕ) where
    insert-in : (x p : ℕ) (qs : List ℕ) → is_in x (map g (inserted key p qs)) ≡ (eqb x (g p) || is_in x (map g qs))
    unfolding inserted is_in
    insert-in x p [] = refl
    insert-in x p (q ∷ qs) = go (lex_lt (key q) (key p)) (insert-in x p qs)
      where
        go : (t : Bool) → is_in x (map g (inserted key p qs)) ≡ (eqb x (g p) || is_in x (map g qs))
            → is_in x (map g (cond t (q ∷ inserted key p qs) (p ∷ (q ∷ qs)))) ≡ (eqb x (g p) || (eqb x (g q) || is_in x (map g qs)))
        go true f = ap (λ z. eqb x (g q) || z) f ∙ swap_or (eqb x (g q)) (eqb x (g p)) (is_in x (map g qs))
        go false f = refl

    insert-distinct : (p : ℕ) (qs : List ℕ) → distinct (map g (inserted key p qs)) ≡ distinct (map g (p ∷ qs))
    unfolding inserted distinct is_in
    insert-distinct p [] = refl
    insert-distinct p (q ∷ qs) = go (lex_lt (key q) (key p)) (insert-distinct p qs)
      where
        go : (t : Bool) → distinct (map g (inserted key p qs)) ≡ distinct (map g (p ∷ qs))
            → distinct (map g (cond t (q ∷ inserted key p qs) (p ∷ (q ∷ qs)))) ≡ distinct (map g (p ∷ (q ∷ qs)))
        go true f =
            ap (λ z. not (is_in (g q) (map g (inserted key p qs))) && z) f
            ∙ ap (λ z. not z && distinct (map g (p ∷ qs))) (insert-in (g q) p qs)
            ∙ swap_and (eqb (g q) (g p)) (is_in (g q) (map g qs)) (is_in (g p) (map g qs)) (distinct (map g qs))
            ∙ ap (λ z. not (z || is_in (g p) (map g qs)) && (not (is_in (g q) (map g qs)) && distinct (map g qs))) (eqb-sym (g q) (g p))
        go false f = refl

    sort-in : (x : ℕ) (ps : List ℕ) → is_in x (map g (sorted_by key ps)) ≡ is_in x (map g ps)
    unfolding sorted_by is_in
    sort-in x [] = refl
    sort-in x (p ∷ ps) = insert-in x p (sorted_by key ps) ∙ ap (λ z. eqb x (g p) || z) (sort-in x ps)

    sort-distinct : (ps : List ℕ) → distinct (map g (sorted_by key ps)) ≡ distinct (map g ps)
    unfolding sorted_by distinct
    sort-distinct [] = refl
    sort-distinct (p ∷ ps) =
        insert-distinct p (sorted_by key ps)
        ∙ ap (λ z. not z && distinct (map g (sorted_by key ps))) (sort-in (g p) ps)
        ∙ ap (λ z. not (is_in (g p) (map g ps)) && z) (sort-distinct ps)

-- ---- identities by place

same_map : (f g : ℕ → ℕ) (l : List ℕ) → ((p : ℕ) → Memᴰ p l → f p ≡ g p) → map f l ≡ map g l
same_map f g [] e = refl
same_map f g (p ∷ l) e = rw (e p (here refl), same_map f g l (λ q m. e q (there m)))

get-id : (ps : List ImPeak1D) (k : ℕ) → k < length ps → get_or (map (λ p. p.id) ps) k 0 ≡ (nth ps k).id
get-id [] k h = absurd (omega arith)
get-id (p ∷ ps) zero h = refl
get-id (p ∷ ps) (suc k) h = get-id ps k (omega arith)

ids-map : (ps : List ImPeak1D) → map (λ p. p.id) ps ≡ map (λ k. (nth ps k).id) (up_to (length ps))
ids-map ps =
    let n : length (map (λ p. p.id) ps) ≡ length ps = length-map ps (λ p. p.id) in
    sym (take_all (length ps) (map (λ p. p.id) ps) (omega (arith, n)))
    ∙ front-map (map (λ p. p.id) ps) 0 (λ k. (nth ps k).id) (length ps) (omega (arith, n)) (get-id ps)

get-word : (ps : List ImPeak1D) (rest : List ℕ) (k : ℕ) → k < length ps → get_or (key_table Identity ps ++ rest) k 0 ≡ (nth ps k).id
unfolding key_table key_of
get-word [] rest k h = absurd (omega arith)
get-word (p ∷ ps) rest zero h = refl
get-word (p ∷ ps) rest (suc k) h = get-word ps rest k (omega arith)

-- ---- the identities in a table, in order

module _ (ps : List ImPeak1D) (rest : List ℕ) where
  abbrev words : List ℕ
  words = key_table Identity ps ++ rest

  abbrev in_order : List ℕ
  in_order = sorted_by (row words 1) (up_to (length ps))

  -- each place of the order is one of the peaks
  pub order_below : (p : ℕ) → Memᴰ p in_order → p < length ps
  order_below p m = upto-lt (length ps) p (sort-given (row words 1) (up_to (length ps)) p m)

  -- neighbours in order differ where identities are distinct
  pub order-tells : neighbours_differ (map (λ p. get_or words p 0) in_order) ≡ distinct_ids ps
  unfolding width_of key_of
  order-tells =
      let id : ℕ → ℕ = λ k. (nth ps k).id in
      let key : ℕ → List ℕ = λ k. id k ∷ [] in
      let sorted : in_order ≡ sorted_by key (up_to (length ps)) = table-sorts Identity ps rest in
      let read : map (λ p. get_or words p 0) in_order ≡ map id in_order
      = same_map (λ p. get_or words p 0) id in_order (λ p m. get-word ps rest p (upto-lt (length ps) p (sort-given (row words 1) (up_to (length ps)) p m))) in
      ap neighbours_differ read
      ∙ ap (λ l. neighbours_differ (map id l)) sorted
      ∙ differ-distinct id (sorted_by key (up_to (length ps))) (sort-ascending key (up_to (length ps)))
      ∙ sort-distinct id key (up_to (length ps))
      ∙ ap distinct (sym (ids-map ps))

-- what holds where the identities of n peaks of a list of words are sorted
pub record Found (words : List ℕ) (n : ℕ) (ids order : List ℕ) : Type 0 where
  pub in_order : order ≡ by_identity (peaks_of words n)
  pub below : (p : ℕ) → Memᴰ p order → p < n
  pub tells : neighbours_differ (map (λ p. get_or ids p 0) order) ≡ distinct_ids (peaks_of words n)

pub found : (words : List ℕ) (n : ℕ) (ids rest order : List ℕ) → ids ≡ key_table Identity (peaks_of words n) ++ rest → order ≡ sorted_by (row ids 1) (up_to n) → Found words n ids order
unfolding width_of
found words n ids rest order e o =
    let ps = peaks_of words n in
    let sorted : order ≡ in_order ps rest = o ∙ rw (e, peaks-length words n) in
    record {
      in_order = sorted ∙ table-sorts Identity ps rest;
      below = λ p m. rw (← peaks-length words n) (order_below ps rest p (rw sorted at m));
      tells = rw (sorted, e) (order-tells ps rest);
    }

-- ---- the first places

-- all places put to the front of a list, or what it held left there
pub put_front : (r : Bool) (all order last : List ℕ) (n : ℕ) → n ≤ length order → length all ≡ n → last ≡ cond r (take (length (take n order)) all) (take n order)
    → last ++ drop n order ≡ cond r (all ++ drop n order) order
put_front true all order last n h l e = ap (λ z. z ++ drop n order) (e ∙ take_all (length (take n order)) all (omega (arith, l, length-take-le n order h)))
put_front false all order last n h l e = ap (λ z. z ++ drop n order) e ∙ take-append-drop n order

-- as many as there are peaks
pub order-length : (words : List ℕ) (n : ℕ) → length (by_identity (peaks_of words n)) ≡ n
order-length words n = sort-length (λ k. key_of Identity (nth (peaks_of words n) k)) (up_to (length (peaks_of words n))) ∙ upto-length (length (peaks_of words n)) ∙ peaks-length words n
