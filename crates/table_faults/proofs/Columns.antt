-- The byte that is told stands at its column: the statement is in specs/Facts.antt.
use Rattle.std.proofs.Common.{◌≡◌, refl, sym, ◌∙◌, subst, Bool, true, false, not, ◌&&◌, cond, List, [], ◌∷◌, ℕ, zero, suc, ◌+◌, ◌-◌, ◌≤◌, ◌<◌, length, get_or, take, drop, Option, Some, None, arith, eqb, ltb, ◌≢◌}
use Rattle.std.specs.List.{position}
use Rattle.std.specs.Char.{is_ascii_digit}
use Rattle.std.specs.Option.{option_or, option_map, unwrap_or}
use Rattle.std.proofs.lemmas.List.{length-drop, get_or-drop, get_or-take, length-take-le}
use Rattle.std.proofs.lemmas.List.Quantifiers.{position-Some}
use borrow.Author.Tests.{not-true, ltb-true, ltb-false, eq-eqb}
use Rattle.limits.specs.Limits.{last_row}
use Rattle.table_text.specs.Sizes.{max_fields}
use Rattle.table_text.specs.Text.{comma, fields, comma_at, is_number}
use Rattle.table_text.proofs.Laws.{split-comma, split-none}
use Rattle.table_text.specs.declared.Progress.{Progress}
use Rattle.table_faults.specs.declared.Kind.{Kind}
use Rattle.table_faults.specs.declared.Fault.{Fault}
use Rattle.table_faults.specs.Faults.{told, first_of, limit_of, other_byte, bad_field, field_fault, fields_fault, params_fault, row_fault, line_fault}
use Rattle.table_faults.specs.Facts.{ByteThere}

-- ---- one field
record InField (at : ℕ) (f : List ℕ) (c b : ℕ) : Type 0 where
  i : ℕ
  within : i < length f
  column : c ≡ at + i + 1
  byte : get_or f i 0 ≡ b
  other : is_ascii_digit b ≡ false

in_field : (kind : Kind) (k at : ℕ) (f : List ℕ) (c b : ℕ) → field_fault kind k at f ≡ Some (Fault.OtherByte c b) → InField at f c b
unfolding field_fault bad_field other_byte
in_field kind k at f c b h =
    go (is_number (limit_of kind k) f) (eqb (length f) 0) (position (λ x. not (is_ascii_digit x)) f) (ltb 8 (length f)) refl h
  where
    go : (n e : Bool) (o : Option ℕ) (d : Bool) → position (λ x. not (is_ascii_digit x)) f ≡ o
        → cond n None (Some (unwrap_or (first_of (told e (Fault.EmptyField k) ∷ option_map (λ i. Fault.OtherByte (at + i + 1) (get_or f i 0)) o ∷ told d (Fault.Digits k) ∷ [])) (Fault.TooHigh k (limit_of kind k))))
        ≡ Some (Fault.OtherByte c b)
        → InField at f c b
    go true e o d p h = absurd (cc)
    go false true o d p h = absurd (cc)
    go false false (Some i) d p h =
        let at_i = position-Some (λ x. not (is_ascii_digit x)) f i 0 p in
        let byte : get_or f i 0 ≡ b = cc in
        record { i = i; within = at_i.0; column = cc; byte = byte; other = subst (λ x. is_ascii_digit x ≡ false) byte (not-true _ at_i.1) }
    go false false None true p h = absurd (cc)
    go false false None false p h = absurd (cc)

-- ---- faults that name no byte
abbrev Other : Option Fault → Type 0
Other None = Unit {0}
Other (Some (Fault.OtherByte c b)) = ⊥
Other (Some x) = Unit {0}

other_told : (t : Bool) (x : Fault) → Other (Some x) → Other (told t x)
other_told true x h = h
other_told false x h = tt

other_first : (o p : Option Fault) → Other o → Other p → Other (option_or o p)
other_first None p h g = g
other_first (Some x) p h g = h

-- the first of two names a byte, where the second names none
first_byte : (o p : Option Fault) (c b : ℕ) → Other p → option_or o p ≡ Some (Fault.OtherByte c b) → o ≡ Some (Fault.OtherByte c b)
first_byte None p c b g h = absurd (subst Other h g)
first_byte (Some x) p c b g h = h

-- ---- the fields of a line
before_comma : (l : List ℕ) (i : ℕ) → i < comma_at l → get_or l i 0 ≡ comma → ⊥
unfolding comma_at
before_comma [] i h e = omega arith
before_comma (b ∷ bs) zero h e = let t : comma_at (b ∷ bs) ≡ 0 = rw (eq-eqb b comma e) in omega arith
before_comma (b ∷ bs) (suc i) h e = go (eqb b comma) (before_comma bs i) h
  where
    go : (t : Bool) → (i < comma_at bs → get_or bs i 0 ≡ comma → ⊥) → suc i < cond t 0 (suc (comma_at bs)) → ⊥
    go true r g = omega arith
    go false r g = r (omega arith) e

record InLine (at : ℕ) (l : List ℕ) (c b : ℕ) : Type 0 where
  above : at < c
  within : c ≤ at + length l
  byte : get_or l (c - at - 1) 0 ≡ b
  other : is_ascii_digit b ≡ false
  apart : b ≡ comma → ⊥

-- a line without a comma
whole_line : (kind : Kind) (k at : ℕ) (l : List ℕ) (c b : ℕ) → length l ≤ comma_at l → fields_fault kind k at (fields l) ≡ Some (Fault.OtherByte c b) → InLine at l c b
unfolding fields_fault
whole_line kind k at l c b g h =
    let f = in_field kind k at l c b (first_byte (field_fault kind k at l) None c b tt (rw (split-none l g) at h)) in
    let p : c - at - 1 ≡ f.i = omega (arith, f.column) in
    record {
      above = omega (arith, f.column);
      within = omega (arith, f.column, f.within);
      byte = rw p f.byte;
      other = f.other;
      apart = λ q. before_comma l f.i (omega (arith, f.within)) (f.byte ∙ q);
    }

module _ (kind : Kind) (k at : ℕ) (l : List ℕ) (c b : ℕ) (g : comma_at l < length l) where
  -- its first field, and the rest behind the comma
  in_first : InField at (take (comma_at l) l) c b → InLine at l c b
  in_first f =
      let long = length-take-le (comma_at l) l (omega arith) in
      let i : f.i < comma_at l = omega (arith, f.within) in
      let byte = sym (get_or-take (comma_at l) l f.i 0 i) ∙ f.byte in
      let p : c - at - 1 ≡ f.i = omega (arith, f.column) in
      record {
        above = omega (arith, f.column);
        within = omega (arith, f.column);
        byte = rw p byte;
        other = f.other;
        apart = λ q. before_comma l f.i i (byte ∙ q);
      }

  in_rest : InLine (at + (length (take (comma_at l) l) + 1)) (drop (suc (comma_at l)) l) c b → InLine at l c b
  in_rest r =
      let n = length (take (comma_at l) l) in
      let long : n ≡ comma_at l = length-take-le (comma_at l) l (omega arith) in
      let left = length-drop (suc (comma_at l)) l in
      let p : c - at - 1 ≡ suc (comma_at l) + (c - (at + (n + 1)) - 1) = omega (arith, r.above) in
      record {
        above = omega (arith, r.above);
        within = omega (arith, r.within);
        byte = rw p (sym (get_or-drop (suc (comma_at l)) l (c - (at + (n + 1)) - 1) 0) ∙ r.byte);
        other = r.other;
        apart = r.apart;
      }

in_line : (n : ℕ) (kind : Kind) (k at : ℕ) (l : List ℕ) (c b : ℕ) → length l ≤ n → fields_fault kind k at (fields l) ≡ Some (Fault.OtherByte c b) → InLine at l c b
unfolding fields_fault
in_line zero kind k at l c b m h = whole_line kind k at l c b (omega arith) h
in_line (suc n) kind k at l c b m h =
    go (ltb (comma_at l) (length l)) refl (in_line n kind (k + 1) (at + (length (take (comma_at l) l) + 1)) (drop (suc (comma_at l)) l) c b)
  where
    go : (t : Bool) → ltb (comma_at l) (length l) ≡ t
        → (length (drop (suc (comma_at l)) l) ≤ n → fields_fault kind (k + 1) (at + (length (take (comma_at l) l) + 1)) (fields (drop (suc (comma_at l)) l)) ≡ Some (Fault.OtherByte c b) → InLine (at + (length (take (comma_at l) l) + 1)) (drop (suc (comma_at l)) l) c b)
        → InLine at l c b
    go false t r = whole_line kind k at l c b (ltb-false _ _ t) h
    go true t r =
        let g = ltb-true _ _ t in
        let left = length-drop (suc (comma_at l)) l in
        by (field_fault kind k at (take (comma_at l) l)) refl (rw (split-comma l g) at h)
      where
        by : (o : Option Fault) → field_fault kind k at (take (comma_at l) l) ≡ o
            → option_or o (fields_fault kind (k + 1) (at + (length (take (comma_at l) l) + 1)) (fields (drop (suc (comma_at l)) l))) ≡ Some (Fault.OtherByte c b) → InLine at l c b
        by (Some x) e h = in_first kind k at l c b (ltb-true _ _ t) (in_field kind k at (take (comma_at l) l) c b (e ∙ h))
        by None e h = in_rest kind k at l c b (ltb-true _ _ t) (r (omega (arith, length-drop (suc (comma_at l)) l)) h)

-- ---- a line
in_whole : (line : List ℕ) (c b : ℕ) → InLine 0 line c b → (1 ≤ c) × (c ≤ length line) × (get_or line (c - 1) 0 ≡ b) × (is_ascii_digit b ≡ false) × (b ≢ comma)
in_whole line c b r =
    let p : c - 1 ≡ c - 0 - 1 = omega arith in
    (omega (arith, r.above), omega (arith, r.within), rw p r.byte, r.other, r.apart)

pub byte-there : ByteThere
unfolding line_fault params_fault row_fault
byte-there s [] c b h = absurd (cc)
byte-there Progress.Start (x ∷ xs) c b h =
    let n = length (fields (x ∷ xs)) in
    let t = not (eqb n 3) in
    let e = first_byte (fields_fault Kind.Params 1 0 (fields (x ∷ xs))) _ c b (other_first (told t (Fault.NotThree n)) None (other_told t _ tt) tt) h in
    in_whole (x ∷ xs) c b (in_line (length (x ∷ xs)) Kind.Params 1 0 (x ∷ xs) c b (omega arith) e)
byte-there (Progress.Rows s) (x ∷ xs) c b h =
    let n = length (fields (x ∷ xs)) in
    let t = not (eqb s.count 0) && not (eqb n s.count) in
    let e =
    first_byte (fields_fault Kind.Row 1 0 (fields (x ∷ xs))) _ c b (
    other_first (told (ltb max_fields n) (Fault.ManyFields n)) _ (other_told (ltb max_fields n) _ tt) (
    other_first (told t (Fault.OtherCount n s.count)) _ (other_told t _ tt) (
    other_first (told (ltb last_row s.rows) Fault.ManyRows) None (other_told (ltb last_row s.rows) _ tt) tt))) h in
    in_whole (x ∷ xs) c b (in_line (length (x ∷ xs)) Kind.Row 1 0 (x ∷ xs) c b (omega arith) e)
