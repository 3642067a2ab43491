-- Laws of lines that are read field by field.
use Rattle.std.specs.List.{position, position_or_len, position_from, slice_split, onto_first}
use Rattle.std.proofs.lemmas.List.{map-append, take_rest}
use Rattle.std.specs.Option.{option_map, option_copied, unwrap_or, is_some, MatchOption}
use Rattle.std.specs.Bool.{then_some}
use Rattle.std.specs.List.{slice_get}
use Rattle.std.proofs.lemmas.Option.{slice_get_within, get_or_from_slice_get, slice_get-get_or}
use Rattle.std.proofs.Common.{Bor}
use Rattle.std.proofs.lemmas.List.Recursion.{is_position_or_len}
use Rattle.std.proofs.lemmas.List.Sums.{prefix_len-le-length}
use Rattle.std.proofs.lemmas.List.Quantifiers.{position-Some}
use Rattle.std.proofs.lemmas.Iterator.Adapters.{position_from-zero}
use Rattle.std.proofs.Math.Numerals.{one-add}
use Rattle.std.proofs.Common.{add_assoc, not}
use Rattle.std.proofs.Common.{Option, Some, None}
use Rattle.row_params.specs.declared.ImDetectParams.{ImDetectParams}
use mathlib.Core.Path.{◌≡◌, refl, sym, ◌∙◌, ap, subst}
use mathlib.Core.Bool.{Bool, true, false, cond, ◌&&◌, ◌||◌}
use mathlib.Core.List.{List, [], ◌∷◌, ◌++◌, map}
use Prim.Native.Nat.{ℕ, zero, suc, min, ◌≤◌, ◌<◌, ◌+◌, ◌-◌, ◌*◌, ◌^◌}
use native.Mathlib.Nat.{add-zero, pow-suc, pow-le-pow_right}
use native.Mathlib.Numerals.{add-one, sub-one}
use native.Mathlib.Omega.{arith}
use borrow.Author.Tests.{ltb-true, ltb-false, leb-true, le-leb, lt-leb}
use lib.Dec.{leb, ltb, eqb}
use lib.ListN.{length, get_or, take, drop, set, length-drop, length-map, drop_of_length-le}
use lib.Seq.{drop-cons, take-suc, length-take-le, take_all, drop-drop, drop-append-add}
use lib.Ieee.{Float}
use Rattle.limits.specs.Limits.{last_row}
use Rattle.numeric.specs.Arith.{index_f}
use Rattle.refusal.proofs.Bools.{clash, both}
use Rattle.table_text.specs.Sizes.{max_number, max_fields}
use Rattle.table_text.specs.Text.{comma, onto, fields, all_digits, value_from, value, is_number, number_text, all_numbers, is_row, readings, row_text, comma_at, params_from, params_of, lf, lf_from}
use Rattle.table_text.specs.declared.RowsSoFar.{RowsSoFar}
use Rattle.table_text.specs.declared.Verdict.{Verdict}
use Rattle.table_text.specs.Table.{cr, ends_in_cr, opened, is_next, counted}
use Rattle.numeric.proofs.Lists.{push}
use Rattle.std.proofs.Math.Bool.{and-false}

-- ---- numbers
pub some-if : (b : Bool) (n : ℕ) → then_some b n ≡ cond b (Some n) None
some-if true n = refl
some-if false n = refl

pub nonzero : (n : ℕ) → (n ≡ 0 → ⊥) → 1 ≤ n
nonzero zero h = absurd (h refl)
nonzero (suc n) h = omega arith

-- a number of d digits
pub digits-bound : (v d k : ℕ) → v < 10 ^ d → d ≤ k → v < 10 ^ k
digits-bound v d k h e = let p : 10 ^ d ≤ 10 ^ k = pow-le-pow_right {n = 10} (omega arith) e in omega arith

pub digits_more : (v d b : ℕ) → v < 10 ^ d → b ≤ 57 → v * 10 + (b - 48) < 10 ^ (d + 1)
digits_more v d b h e = rw (add-one, pow-suc) (omega arith)

-- ---- the fields of a line
pub some-field : (bs : List ℕ) → 0 < length (fields bs)
unfolding fields
some-field [] = omega arith
some-field (b ∷ bs) = go (eqb b comma) (fields bs)
  where
    go : (e : Bool) (fs : List (List ℕ)) → 0 < length (cond e ([] ∷ fs) (onto b fs))
    go true fs = omega arith
    go false [] = omega arith
    go false (f ∷ fs) = omega arith

-- the library cuts a line at the same places
pub fields_split : (bs : List ℕ) → fields bs ≡ slice_split (λ b. eqb b comma) bs
unfolding fields
fields_split [] = refl
fields_split (b ∷ bs) = rw (fields_split bs) (go (eqb b comma) (slice_split (λ b. eqb b comma) bs))
  where
    go : (e : Bool) (fs : List (List ℕ)) → cond e ([] ∷ fs) (onto b fs) ≡ cond e ([] ∷ fs) (onto_first b fs)
    go true fs = refl
    go false [] = refl
    go false (f ∷ fs) = refl

-- ---- fields that are numbers
numbers-one : (m : ℕ) (fs : List (List ℕ)) (f : List ℕ) → all_numbers m fs ≡ true → is_number m f ≡ true → all_numbers m (fs ++ (f ∷ [])) ≡ true
unfolding all_numbers
numbers-one m [] f a e = rw e
numbers-one m (g ∷ fs) f a e = let p = both (is_number m g) a in rw (p.0) (numbers-one m fs f p.1 e)

numbers-bad : (m : ℕ) (fs : List (List ℕ)) (n : ℕ) (d : List ℕ) → n < length fs → is_number m (get_or fs n d) ≡ false → all_numbers m fs ≡ false
unfolding all_numbers
numbers-bad m [] n d h e = absurd (omega arith)
numbers-bad m (f ∷ fs) zero d h e = rw e
numbers-bad m (f ∷ fs) (suc n) d h e = rw (numbers-bad m fs n d (omega arith) e) (and-false (is_number m f))

-- ---- lists
-- the element at which a list goes on
pub next-part : {A : Type 0} (l : List A) (n : ℕ) (x : A) (xs : List A) → drop n l ≡ x ∷ xs → (n < length l) × (x ≡ get_or l n x) × (drop (n + 1) l ≡ xs)
next-part l n x xs e =
    let k : length l - n ≡ suc (length xs) = sym (length-drop n l) ∙ ap length e in
    let h : n < length l = omega arith in
    let t : get_or l n x ∷ drop (suc n) l ≡ x ∷ xs = sym (drop-cons l n x h) ∙ e in
    (h, cc, rw add-one (cc))

-- what the number of a field says
pub no-number : (m : ℕ) (f : List ℕ) → None ≡ number_text m f → is_number m f ≡ false
no-number m f e = go (is_number m f) e
  where
    go : (b : Bool) → None ≡ cond b (Some (value f)) None → b ≡ false
    go true e = let z : ◌≡◌ {A = ℕ} 0 1 = cc in absurd (omega arith)
    go false e = refl

pub the-number : (m : ℕ) (f : List ℕ) (n : ℕ) → Some n ≡ number_text m f → (is_number m f ≡ true) × (n ≡ value f)
the-number m f n e = go (is_number m f) e
  where
    go : (b : Bool) → Some n ≡ cond b (Some (value f)) None → (b ≡ true) × (n ≡ value f)
    go true e = (refl, cc)
    go false e = let z : ◌≡◌ {A = ℕ} 0 1 = cc in absurd (omega arith)

-- ---- the first n fields of a line are numbers, and their readings stand at the front of the row
pub record Got (line : List ℕ) (row₀ row : List Float) (n : ℕ) : Type 0 where
  pub some : n ≤ length (fields line)
  pub few : n ≤ max_fields
  pub numbers : all_numbers max_number (take n (fields line)) ≡ true
  pub front : row ≡ map (λ f. index_f (value f)) (take n (fields line)) ++ drop n row₀

pub got-none : (line : List ℕ) (row : List Float) → Got line row row 0
unfolding all_numbers
got-none line row = record { some = omega arith; few = omega arith; numbers = refl; front = refl }

module _ (line : List ℕ) (row₀ row : List Float) (n : ℕ) (s : Got line row₀ row n) where
  -- the field that is read next
  module _ (f : List ℕ) (h : n < length (fields line)) (e : f ≡ get_or (fields line) n f) where
    pub got-next : is_number max_number f ≡ true → n < max_fields → n < length row₀ → Got line row₀ (set row n (index_f (value f))) (n + 1)
    got-next g few room =
        let k : take (n + 1) (fields line) ≡ take n (fields line) ++ (f ∷ []) = rw add-one (take-suc (fields line) n f h) ∙ ap (λ (x : List ℕ). take n (fields line) ++ (x ∷ [])) (sym e) in
        let l : length (map (λ f. index_f (value f)) (take n (fields line))) ≡ n = length-map (take n (fields line)) (λ f. index_f (value f)) ∙ length-take-le n (fields line) s.some in
        record {
          some = omega arith;
          few = omega arith;
          numbers = rw k (numbers-one max_number (take n (fields line)) f s.numbers g);
          front = rw (s.front, k, map-append) (push (map (λ f. index_f (value f)) (take n (fields line))) row₀ n (index_f (value f)) l room);
        }

    pub got-bad : is_number max_number f ≡ false → is_row line ≡ false
    unfolding is_row
    got-bad g = rw (numbers-bad max_number (fields line) n f h (rw (← e) g))

  pub got-wide : n < length (fields line) → n ≡ max_fields → is_row line ≡ false
  unfolding is_row
  got-wide h e = rw (lt-leb (length (fields line)) max_fields (omega arith)) (and-false (all_numbers max_number (fields line)))

  pub got-all : n ≡ length (fields line) → (is_row line ≡ true) × (row ≡ readings line ++ drop (length (fields line)) row₀)
  unfolding is_row readings
  got-all e =
      let k : take n (fields line) ≡ fields line = take_all n (fields line) (omega arith) in
      let a : all_numbers max_number (fields line) ≡ true = rw k at s.numbers in
      (rw (a, le-leb (length (fields line)) max_fields (omega (arith, s.few))), rw (s.front, k, e))

  -- beyond the first 4,096 places nothing has changed
  pub got-rest : drop max_fields row ≡ drop max_fields row₀
  got-rest =
      let p = map (λ f. index_f (value f)) (take n (fields line)) in
      let l : length p ≡ n = length-map (take n (fields line)) (λ f. index_f (value f)) ∙ length-take-le n (fields line) s.some in
      let e : max_fields ≡ length p + (max_fields - n) = omega (arith, s.few) in
      let e' : n + (max_fields - n) ≡ max_fields = omega (arith, s.few) in
      rw s.front (subst (λ (z : ℕ). drop z (p ++ drop n row₀) ≡ drop max_fields row₀) (sym e) (drop-append-add p (drop n row₀) (max_fields - n) ∙ drop-drop (max_fields - n) n row₀ ∙ ap (λ (z : ℕ). drop z row₀) e'))

-- the answers to a bad line and to a row
pub bad-answer : (line : List ℕ) (row₀ row : List Float) → is_row line ≡ false → drop max_fields row ≡ drop max_fields row₀
    → (None ≡ row_text line) × ((is_row line ≡ true → row ≡ readings line ++ drop (length (fields line)) row₀) × (drop max_fields row ≡ drop max_fields row₀))
bad-answer line row₀ row b r = (rw b, ((λ h. clash (is_row line) h b), r))

pub row-answer : (line : List ℕ) (row₀ row : List Float) (n : ℕ)
    → (is_row line ≡ true) × (length (fields line) ≡ n) × (row ≡ readings line ++ drop (length (fields line)) row₀) → drop max_fields row ≡ drop max_fields row₀
    → (Some n ≡ row_text line) × ((is_row line ≡ true → row ≡ readings line ++ drop (length (fields line)) row₀) × (drop max_fields row ≡ drop max_fields row₀))
row-answer line row₀ row n t r = (rw (t.0, t.1), ((λ h. t.2), r))

-- ---- the first comma and the first LF of a list
pub comma_or_length : (l : List ℕ) → unwrap_or (position (λ b. eqb b comma) l) (length l) ≡ comma_at l
unfolding comma_at
comma_or_length l =
    let e = is_position_or_len comma_at (λ b. eqb b comma) refl (λ x xs. ap (λ (z : ℕ). cond (eqb x comma) 0 z) (sym (one-add (comma_at xs)))) l in
    let m = prefix_len-le-length (λ b. not (eqb b comma)) l in
    rw e (go (ltb (position_or_len (λ b. eqb b comma) l) (length l)) refl m)
  where
    go : (t : Bool) → ltb (position_or_len (λ b. eqb b comma) l) (length l) ≡ t → position_or_len (λ b. eqb b comma) l ≤ length l
        → unwrap_or (cond t (Some (position_or_len (λ b. eqb b comma) l)) None) (length l) ≡ position_or_len (λ b. eqb b comma) l
    go true e m = refl
    go false e m = let k = ltb-false (position_or_len (λ b. eqb b comma) l) (length l) e in omega arith

from_place : (k j : ℕ) (l : List ℕ) → lf_from (k + j) l ≡ option_map (λ i. k + i) (position_from (λ b. eqb b lf) j l)
unfolding lf_from
from_place k j [] = refl
from_place k j (b ∷ bs) = go (eqb b lf) (rw (← add_assoc k j 1) at (from_place k (j + 1) bs))
  where
    go : (t : Bool) → lf_from (k + j + 1) bs ≡ option_map (λ i. k + i) (position_from (λ b. eqb b lf) (j + 1) bs)
        → cond t (Some (k + j)) (lf_from (k + j + 1) bs) ≡ option_map (λ i. k + i) (cond t (Some j) (position_from (λ b. eqb b lf) (j + 1) bs))
    go true h = refl
    go false h = h

pub lf-place : (k : ℕ) (l : List ℕ) → lf_from k l ≡ option_map (λ i. k + i) (position (λ b. eqb b lf) l)
lf-place k l =
    ap (λ (z : ℕ). lf_from z l) (sym (add-zero k)) ∙ from_place k 0 l
    ∙ ap (option_map (λ i. k + i)) (sym (position_from-zero (λ b. eqb b lf) l))

-- the answer of a search from the place j on, which is the place that is asked for
pub lf-behind : (l : List ℕ) (from j : ℕ) (o : Option ℕ) → j ≡ from → o ≡ position (λ b. eqb b lf) (drop j l) → option_map (λ i. j + i) o ≡ lf_from from (drop from l)
lf-behind l from j o e h = ap (option_map (λ i. j + i)) h ∙ sym (lf-place j (drop j l)) ∙ ap (λ (z : ℕ). lf_from z (drop z l)) e

pub lf-none : (l : List ℕ) (i : ℕ) → length l ≤ i → lf_from i (drop i l) ≡ None
unfolding lf_from
lf-none l i h = rw (drop_of_length-le l h)

-- ---- a field's number, from its middle on
abbrev pub Counted : ℕ → List ℕ → ℕ → List ℕ → Type 0
Counted limit f v rest = (is_number limit f ≡ (all_digits rest && leb (value_from v rest) limit)) × (value f ≡ value_from v rest)

pub number-start : (limit : ℕ) (f : List ℕ) → 1 ≤ length f → length f ≤ 8 → Counted limit f 0 f
unfolding is_number
number-start limit f h k = (rw (le-leb 1 (length f) h, le-leb (length f) 8 k), refl)

pub number-none : (limit : ℕ) (f : List ℕ) → (leb 1 (length f) && leb (length f) 8) ≡ false → is_number limit f ≡ false
unfolding is_number
number-none limit f h = rw h

pub number-long : (limit : ℕ) (f : List ℕ) → 8 < length f → is_number limit f ≡ false
unfolding is_number
number-long limit f h = rw (le-leb 1 (length f) (omega arith), lt-leb (length f) 8 h)

module _ (limit : ℕ) (f : List ℕ) (v i : ℕ) (s : Counted limit f v (drop i f)) where
  pub number-next : i < length f → (leb 48 (get_or f i 0) && leb (get_or f i 0) 57) ≡ true → Counted limit f (v * 10 + (get_or f i 0 - 48)) (drop (i + 1) f)
  unfolding all_digits value_from
  number-next h e =
      let k : drop i f ≡ get_or f i 0 ∷ drop (i + 1) f = rw (add-one, drop-cons f i 0) in
      (s.0 ∙ rw (k, e), s.1 ∙ rw k)

  pub number-bad : i < length f → (leb 48 (get_or f i 0) && leb (get_or f i 0) 57) ≡ false → is_number limit f ≡ false
  unfolding all_digits value_from
  number-bad h e = s.0 ∙ rw (drop-cons f i 0 h, e)

  pub number-end : length f ≤ i → (is_number limit f ≡ leb v limit) × (value f ≡ v)
  unfolding all_digits value_from
  number-end h = (s.0 ∙ rw (drop_of_length-le f h), s.1 ∙ rw (drop_of_length-le f h))

-- ---- the fields of a line by its commas
pub split-comma : (l : List ℕ) → comma_at l < length l → fields l ≡ take (comma_at l) l ∷ fields (drop (suc (comma_at l)) l)
unfolding fields comma_at
split-comma [] h = absurd (omega arith)
split-comma (b ∷ bs) h = go (eqb b comma) h (split-comma bs)
  where
    go : (e : Bool) → cond e 0 (suc (comma_at bs)) < suc (length bs)
        → (comma_at bs < length bs → fields bs ≡ take (comma_at bs) bs ∷ fields (drop (suc (comma_at bs)) bs))
        → cond e ([] ∷ fields bs) (onto b (fields bs)) ≡ take (cond e 0 (suc (comma_at bs))) (b ∷ bs) ∷ fields (drop (suc (cond e 0 (suc (comma_at bs)))) (b ∷ bs))
    go true h r = refl
    go false h r = ap (onto b) (r (omega arith))

pub split-none : (l : List ℕ) → length l ≤ comma_at l → fields l ≡ l ∷ []
unfolding fields comma_at
split-none [] h = refl
split-none (b ∷ bs) h = go (eqb b comma) h (split-none bs)
  where
    go : (e : Bool) → suc (length bs) ≤ cond e 0 (suc (comma_at bs)) → (length bs ≤ comma_at bs → fields bs ≡ bs ∷ [])
        → cond e ([] ∷ fields bs) (onto b (fields bs)) ≡ (b ∷ bs) ∷ []
    go true h r = absurd (omega arith)
    go false h r = ap (onto b) (r (omega arith))

-- the fields of a line that is cut at a comma, and of one that has none
pub cut_fields : (l : List ℕ) (i : ℕ) → Some i ≡ position (λ b. eqb b comma) l → fields l ≡ take i l ∷ fields (take (length l - (i + 1)) (drop (i + 1) l))
cut_fields l i e =
    let h : comma_at l ≡ i = sym (comma_or_length l) ∙ ap (λ (o : Option ℕ). unwrap_or o (length l)) (sym e) in
    let k : i < length l = (position-Some (λ b. eqb b comma) l i 0 (sym e)).0 in
    rw (take_rest l (i + 1), add-one, ← h) (split-comma l (omega arith))

pub whole_field : (l : List ℕ) → None ≡ position (λ b. eqb b comma) l → fields l ≡ l ∷ []
whole_field l e =
    let h : comma_at l ≡ length l = sym (comma_or_length l) ∙ ap (λ (o : Option ℕ). unwrap_or o (length l)) (sym e) in
    split-none l (omega arith)

-- a field that is looked for in the first k bytes of a line, 9 at least or all that there are: e is where it ends
comma-least : (l : List ℕ) (k : ℕ) → comma_at (take k l) ≤ comma_at l
unfolding comma_at
comma-least l zero = omega arith
comma-least [] (suc k) = omega arith
comma-least (b ∷ bs) (suc k) = go (eqb b comma) (comma-least bs k)
  where
    go : (t : Bool) → comma_at (take k bs) ≤ comma_at bs → cond t 0 (suc (comma_at (take k bs))) ≤ cond t 0 (suc (comma_at bs))
    go true h = omega arith
    go false h = omega arith

comma-front : (l : List ℕ) (k : ℕ) → comma_at (take k l) < k → comma_at (take k l) ≡ comma_at l
unfolding comma_at
comma-front l zero h = absurd (omega arith)
comma-front [] (suc k) h = refl
comma-front (b ∷ bs) (suc k) h = go (eqb b comma) h (comma-front bs k)
  where
    go : (t : Bool) → cond t 0 (suc (comma_at (take k bs))) < suc k → (comma_at (take k bs) < k → comma_at (take k bs) ≡ comma_at bs)
        → cond t 0 (suc (comma_at (take k bs))) ≡ cond t 0 (suc (comma_at bs))
    go true h r = refl
    go false h r = ap suc (r (omega arith))

comma_most : (l : List ℕ) → comma_at l ≤ length l
unfolding comma_at
comma_most [] = omega arith
comma_most (b ∷ bs) = go (eqb b comma) (comma_most bs)
  where
    go : (t : Bool) → comma_at bs ≤ length bs → cond t 0 (suc (comma_at bs)) ≤ suc (length bs)
    go true h = omega arith
    go false h = omega arith

module _ (l : List ℕ) (k e : ℕ) (w : min (length l) 9 ≤ k) (h : e ≡ comma_at (take k l)) where
  pub end-most : e ≤ length l
  end-most = let a = comma-least l k in let b = comma_most l in omega arith

  end-short : e ≤ 8 → e ≡ comma_at l
  end-short s = go (ltb e k) refl
    where
      go : (t : Bool) → ltb e k ≡ t → e ≡ comma_at l
      go true t = let a : e < k = ltb-true e k t in h ∙ comma-front l k (omega arith)
      go false t = let a : k ≤ e = ltb-false e k t in h ∙ ap comma_at (take_all k l (omega arith))

  -- it is a number where the first field of the line is one
  pub end-number : (m : ℕ) → is_number m (take e l) ≡ is_number m (take (comma_at l) l)
  end-number m = go (ltb 8 e) refl
    where
      go : (t : Bool) → ltb 8 e ≡ t → is_number m (take e l) ≡ is_number m (take (comma_at l) l)
      go true t =
          let a : 8 < e = ltb-true 8 e t in
          let b : e ≤ comma_at l = (let x = comma-least l k in omega arith) in
          let c = comma_most l in
          let x : 8 < length (take e l) = rw (length-take-le e l (omega arith)) a in
          let y : 8 < length (take (comma_at l) l) = rw (length-take-le (comma_at l) l c) (omega arith) in
          number-long m (take e l) x ∙ sym (number-long m (take (comma_at l) l) y)
      go false t = let a : e ≤ 8 = ltb-false 8 e t in ap (λ (z : ℕ). is_number m (take z l)) (end-short a)

  -- and then it is that field
  pub end-comma : (m : ℕ) → is_number m (take e l) ≡ true → e ≡ comma_at l
  unfolding is_number
  end-comma m t =
      let a : length (take e l) ≤ 8 = leb-true (length (take e l)) 8 (both (leb 1 (length (take e l))) (both (leb 1 (length (take e l)) && leb (length (take e l)) 8) (both (leb 1 (length (take e l)) && leb (length (take e l)) 8 && all_digits (take e l)) t).0).0).1 in
      let b = length-take-le e l end-most in
      end-short (omega arith)

first-field : (l : List ℕ) → fields l ≡ take (comma_at l) l ∷ drop 1 (fields l)
first-field l = go (ltb (comma_at l) (length l)) refl
  where
    go : (t : Bool) → ltb (comma_at l) (length l) ≡ t → fields l ≡ take (comma_at l) l ∷ drop 1 (fields l)
    go true t = rw (split-comma l (ltb-true (comma_at l) (length l) t)) refl
    go false t = let a : length l ≤ comma_at l = ltb-false (comma_at l) (length l) t in rw (split-none l a, take_all (comma_at l) l a) refl

-- what is left of a line behind its first n fields, and the next of them
module _ (line : List ℕ) (n : ℕ) (r : List ℕ) (p : drop n (fields line) ≡ fields r) where
  pub here : (n < length (fields line)) × (take (comma_at r) r ≡ get_or (fields line) n (take (comma_at r) r)) × (drop (n + 1) (fields line) ≡ drop 1 (fields r))
  here = next-part (fields line) n (take (comma_at r) r) (drop 1 (fields r)) (p ∙ first-field r)

  pub here-last : length r ≤ comma_at r → n + 1 ≡ length (fields line)
  here-last h =
      let a : drop (n + 1) (fields line) ≡ [] = here.2 ∙ rw (split-none r h) refl in
      let b : length (fields line) - (n + 1) ≡ 0 = sym (length-drop (n + 1) (fields line)) ∙ ap length a in
      let c = here.0 in
      omega arith

  pub here-more : comma_at r < length r → drop (n + 1) (fields line) ≡ fields (drop (comma_at r + 1) r)
  here-more h = here.2 ∙ rw (split-comma r h, add-one) refl

-- a line that is cut three times
pub four-fields : {A : Type 0} (l a b r w : List ℕ) (o : Option A) (f g : A → List ℕ) → fields l ≡ a ∷ fields r → fields r ≡ b ∷ fields w
    → MatchOption o (fields w ≡ w ∷ []) (λ p. fields w ≡ f p ∷ fields (g p)) → is_some o ≡ true → None ≡ params_of l
unfolding params_of params_from
four-fields l a b r w None f g e h m s = clash false s refl
four-fields l a b r w (Some p) f g e h m s = rw (e, h, m) (go (fields (g p)) (some-field (g p)))
  where
    go : (fs : List (List ℕ)) → 0 < length fs → None ≡ params_from (a ∷ b ∷ f p ∷ fs)
    go [] n = absurd (omega arith)
    go (x ∷ fs) n = refl

-- ---- the last byte
pub cr-none : (l : List ℕ) → length l ≡ 0 → false ≡ ends_in_cr l
unfolding ends_in_cr
cr-none [] h = refl
cr-none (b ∷ l) h = absurd (omega arith)

pub cr-some : (l : List ℕ) → 0 < length l → eqb (get_or l (length l - 1) 0) cr ≡ ends_in_cr l
unfolding ends_in_cr
cr-some [] h = absurd (omega arith)
cr-some (b ∷ []) h = refl
cr-some (b ∷ c ∷ l) h = rw (sub-one (suc (suc (length l)))) (ap (λ (k : ℕ). eqb (get_or (c ∷ l) k 0) cr) (sym (sub-one (suc (length l)))) ∙ cr-some (c ∷ l) (omega arith))

pub cr-last : (l : List ℕ) (o : Option (Bor ℕ)) (r : Bool) → option_copied o ≡ slice_get l (length l - 1)
    → MatchOption o (r ≡ false) (λ x. r ≡ eqb x.now cr) → r ≡ ends_in_cr l
cr-last [] None r e m = m ∙ cr-none [] refl
cr-last (b ∷ l) None r e m =
    let z = e ∙ slice_get-get_or (b ∷ l) (length (b ∷ l) - 1) 0 (omega arith) in
    let z' : ◌≡◌ {A = ℕ} 0 1 = cc in
    absurd (omega arith)
cr-last l (Some x) r e m =
    let k = slice_get_within l (length l - 1) x.now (sym e) in
    m ∙ ap (λ (b : ℕ). eqb b cr) (sym (get_or_from_slice_get l (length l - 1) x.now 0 (sym e))) ∙ cr-some l (omega arith)

-- ---- verdicts
pub next_room : (s : RowsSoFar) (n : ℕ) → is_next s n ≡ true → s.rows ≤ last_row
unfolding is_next
next_room s n e = leb-true s.rows last_row (both (eqb s.count 0 || eqb n s.count) e).1

pub row-counted : (s t : RowsSoFar) (x : Option ℕ) → counted s x ≡ Verdict.Row t → x ≡ Some t.count
row-counted s t None e = let z : ◌≡◌ {A = ℕ} 0 1 = cc in absurd (omega arith)
row-counted s t (Some n) e = go (is_next s n) e
  where
    go : (b : Bool) → cond b (Verdict.Row (record { params = s.params; count = n; rows = s.rows + 1 })) Verdict.Refused ≡ Verdict.Row t → Some n ≡ Some t.count
    go true e = let k : record { params = s.params; count = n; rows = s.rows + 1 } ≡ t = cc in ap (λ (z : RowsSoFar). Some z.count) k
    go false e = let z : ◌≡◌ {A = ℕ} 0 1 = cc in absurd (omega arith)

pub row-text : (line : List ℕ) (n : ℕ) → row_text line ≡ Some n → (is_row line ≡ true) × (length (fields line) ≡ n)
row-text line n e = go (is_row line) e
  where
    go : (b : Bool) → cond b (Some (length (fields line))) None ≡ Some n → (b ≡ true) × (length (fields line) ≡ n)
    go true e = (refl, cc)
    go false e = let z : ◌≡◌ {A = ℕ} 0 1 = cc in absurd (omega arith)

pub never-row : (x : Option ImDetectParams) (t : RowsSoFar) → opened x ≡ Verdict.Row t → ⊥
never-row (Some p) t e = let z : ◌≡◌ {A = ℕ} 0 1 = cc in omega arith
never-row None t e = let z : ◌≡◌ {A = ℕ} 0 1 = cc in omega arith
