-- Laws of text that is printed for bytes that come some at a time.
use mathlib.Core.Path.{◌≡◌, refl, sym, ◌∙◌, ap, subst}
use mathlib.Core.Bool.{Bool, true, false, cond, not, ◌&&◌}
use mathlib.Core.List.{List, [], ◌∷◌, ◌++◌, append_assoc, append-nil}
use Prim.Native.Nat.{ℕ, zero, suc, ◌≤◌, ◌<◌, ◌+◌, ◌-◌}
use native.Mathlib.Nat.{zero-add, add-zero}
use native.Mathlib.Omega.{arith}
use lib.Dec.{eqb}
use lib.ListN.{length, take, drop, length-append, length-drop, drop_of_length-le}
use lib.Seq.{take_at, drop_at, drop-drop, drop-append-add, drop-append-le, take-append-add, take-append-le, length-take-le, take-add, take_all}
use borrow.Rule.Slice.PartMut.{put_mid}
use Rattle.refusal.proofs.Bools.{clash}
use Rattle.table_text.specs.declared.Progress.{Progress}
use Rattle.table_text.specs.declared.RowsSoFar.{RowsSoFar}
use Rattle.table_text.specs.declared.Verdict.{Verdict}
use Rattle.std.proofs.Common.{Option, Some, None, ◌⊎◌}
use mathlib.Core.Logic.{inl, inr}
use Rattle.row_params.specs.declared.ImDetectParams.{ImDetectParams}
use Rattle.std.specs.Option.{unwrap_or}
use Rattle.table_text.specs.Print.{refusal}
use Rattle.table_text.specs.Sizes.{max_line}
use Rattle.table_text.specs.Text.{onto, lf, row_text, params_of, lf_from, next_line}
use Rattle.table_text.specs.Table.{cr, lines, ends_in_cr, opened, is_next, counted, verdict, printed_from}
use Rattle.table_text.specs.Lines.{no_lf}
use Rattle.table_text.proofs.Lines.{last_line, lf-at, first-line, first-line-bad, long-refused}
use Rattle.table_peak_lines.specs.TableText.{peaks_text, line_text, behind_line}
use Rattle.table_peak_lines.proofs.TableLaws.{line-by-line}
use Rattle.table_lines.specs.declared.inner.Fed.{Fed}
use Rattle.table_lines.specs.Refused.{if_accepted, accepted, line_number, LineNumber, line_starts, Accepted, EndedBy}
use Rattle.table_lines.specs.Bytes.{text_from, WholeText, text_left, Put, after_line}

-- ---- the text of a line and what comes behind it
pub text-refused : (s : Progress) (line : List ℕ) (more : List (List ℕ)) → verdict s line ≡ Verdict.Refused → printed_from peaks_text s (line ∷ more) ≡ refusal
text-refused s line more e = line-by-line s line more ∙ rw e (append-nil refusal)

pub left_after : (s : Progress) (v : Verdict) (from used : ℕ) (rest : List ℕ) → behind_line v (lines rest) ≡ text_left (after_line s v from used) rest
left_after s (Verdict.Heading t) from used rest = refl
left_after s (Verdict.Row t) from used rest = refl
left_after s Verdict.Refused from used rest = refl

pub after-from : (s : Progress) (v : Verdict) (from used : ℕ) → (after_line s v from used).from ≡ from
after-from s (Verdict.Heading t) from used = refl
after-from s (Verdict.Row t) from used = refl
after-from s Verdict.Refused from used = refl

pub after-used : (s : Progress) (v : Verdict) (from used : ℕ) → (after_line s v from used).used ≡ used
after-used s (Verdict.Heading t) from used = refl
after-used s (Verdict.Row t) from used = refl
after-used s Verdict.Refused from used = refl

-- ---- a line that an LF ends
lf-first : (j : ℕ) (x rest : List ℕ) → no_lf x ≡ true → lf_from j (x ++ (lf ∷ rest)) ≡ Some (j + length x)
unfolding lf_from no_lf
lf-first j [] rest h = ap Some (sym (add-zero j))
lf-first j (b ∷ x) rest h = go (eqb b lf) h (lf-first (j + 1) x rest)
  where
    go : (e : Bool) → (not e && no_lf x) ≡ true → (no_lf x ≡ true → lf_from (j + 1) (x ++ (lf ∷ rest)) ≡ Some (j + 1 + length x))
        → cond e (Some j) (lf_from (j + 1) (x ++ (lf ∷ rest))) ≡ Some (j + suc (length x))
    go true h r = clash false h refl
    go false h r = let e : j + 1 + length x ≡ j + suc (length x) = omega arith in r h ∙ ap Some e

pub cr-some : (x : List ℕ) → ends_in_cr x ≡ true → 0 < length x
unfolding ends_in_cr
cr-some [] h = clash false h refl
cr-some (b ∷ x) h = omega arith

module _ (s : Progress) (x : List ℕ) (h : no_lf x ≡ true) (rest : List ℕ) where
  at : next_line (x ++ (lf ∷ rest)) 0 ≡ Some (length x)
  at = lf-first 0 x rest h ∙ ap Some (zero-add (length x))

  front : take (length x) (x ++ (lf ∷ rest)) ≡ x
  front = take_at x (lf ∷ rest) (length x) refl

  lines-ended : ends_in_cr x ≡ true → lines (x ++ (lf ∷ rest)) ≡ take (length x - 1) x ∷ lines rest
  lines-ended e =
      let bs = x ++ (lf ∷ rest) in
      let l = first-line bs (length x) at (ap ends_in_cr front ∙ e) in
      let t : take (length x - 1) bs ≡ take (length x - 1) x = take-append-le (length x - 1) x (lf ∷ rest) (omega arith) in
      let d : drop (length x + 1) bs ≡ rest = drop-append-add x (lf ∷ rest) 1 in
      l ∙ rw (t, d)

  pub text-ended : ends_in_cr x ≡ true
      → text_from s (x ++ (lf ∷ rest)) ≡ line_text (take (length x - 1) x) (verdict s (take (length x - 1) x)) ++ behind_line (verdict s (take (length x - 1) x)) (lines rest)
  text-ended e = ap (printed_from peaks_text s) (lines-ended e) ∙ line-by-line s (take (length x - 1) x) (lines rest)

  pub text-lone : ends_in_cr x ≡ false → text_from s (x ++ (lf ∷ rest)) ≡ refusal
  text-lone e =
      let t = first-line-bad (x ++ (lf ∷ rest)) (length x) at (ap ends_in_cr front ∙ e) in
      ap (printed_from peaks_text s) t.2 ∙ text-refused s t.0 t.1 (t.3 s)

-- ---- bytes with no LF
module _ (s : Progress) (x : List ℕ) (h : no_lf x ≡ true) where
  pub text-last : 0 < length x → text_from s x ≡ line_text x (verdict s x)
  unfolding printed_from
  text-last p =
      ap (printed_from peaks_text s) (last_line x h p) ∙ line-by-line s x []
      ∙ ap (λ (l : List ℕ). line_text x (verdict s x) ++ l) (none (verdict s x)) ∙ append-nil (line_text x (verdict s x))
    where
      none : (v : Verdict) → behind_line v [] ≡ []
      none (Verdict.Heading t) = refl
      none (Verdict.Row t) = refl
      none Verdict.Refused = refl

-- of no bytes at all
pub text-none : (x : List ℕ) → length x ≡ 0 → (text_from Progress.Start x ≡ refusal) × ((t : RowsSoFar) → text_from (Progress.Rows t) x ≡ [])
unfolding lines printed_from
text-none [] e = (refl, λ t. refl)
text-none (b ∷ x) e = absurd (omega arith)

-- their line goes on, but for a CR at their end
no_end : (x rest : List ℕ) → no_lf x ≡ true → 0 < length x
    → (line : List ℕ) × (more : List (List ℕ)) × (lines (x ++ rest) ≡ line ∷ more) × (length x ≤ length line + 1)
unfolding lines no_lf
no_end [] rest h p = absurd (omega arith)
no_end (b ∷ []) [] h p = (b ∷ [], [], refl, omega arith)
no_end (b ∷ []) (c ∷ rest) h p = go (eqb b cr && eqb c lf) (lines (c ∷ rest))
  where
    go : (e : Bool) (ls : List (List ℕ)) → (line : List ℕ) × (more : List (List ℕ)) × (cond e ([] ∷ lines rest) (onto b ls) ≡ line ∷ more) × (1 ≤ length line + 1)
    go true ls = ([], lines rest, refl, omega arith)
    go false [] = (b ∷ [], [], refl, omega arith)
    go false (l ∷ ls) = (b ∷ l, ls, refl, omega arith)
no_end (b ∷ c ∷ x) rest h p = go (eqb b cr) (eqb b lf) (eqb c lf) h (no_end (c ∷ x) rest)
  where
    go : (d m n : Bool) → (not m && (not n && no_lf x)) ≡ true
        → ((not n && no_lf x) ≡ true → 0 < suc (length x) → (line : List ℕ) × (more : List (List ℕ)) × (lines (c ∷ (x ++ rest)) ≡ line ∷ more) × (suc (length x) ≤ length line + 1))
        → (line : List ℕ) × (more : List (List ℕ)) × (cond (d && n) ([] ∷ lines (x ++ rest)) (onto b (lines (c ∷ (x ++ rest)))) ≡ line ∷ more) × (suc (suc (length x)) ≤ length line + 1)
    go d true n h r = clash false h refl
    go d false true h r = clash false h refl
    go true false false h r = let t = r h (omega arith) in (b ∷ t.0, t.1, ap (onto b) t.2, omega (arith, t.3))
    go false false false h r = let t = r h (omega arith) in (b ∷ t.0, t.1, ap (onto b) t.2, omega (arith, t.3))

pub text-overlong : (s : Progress) (x rest : List ℕ) → no_lf x ≡ true → max_line < length x → text_from s (x ++ rest) ≡ refusal
text-overlong s x rest h p =
    let t = no_end x rest h (omega arith) in
    ap (printed_from peaks_text s) t.2 ∙ text-refused s t.0 t.1 (long-refused s t.0 (omega (arith, t.3)))

-- ---- where a line starts
pub starts-behind : (x y : List ℕ) → line_starts x ≡ true → line_starts y ≡ true → line_starts (x ++ y) ≡ true
unfolding line_starts
starts-behind [] y h g = g
starts-behind (b ∷ []) [] h g = h
starts-behind (b ∷ []) (c ∷ y) h g = g
starts-behind (b ∷ c ∷ x) y h g = starts-behind (c ∷ x) y h g

starts-lf : (x : List ℕ) → line_starts (x ++ (lf ∷ [])) ≡ true
unfolding line_starts
starts-lf [] = refl
starts-lf (b ∷ []) = refl
starts-lf (b ∷ c ∷ x) = starts-lf (c ∷ x)

-- ---- lines that are accepted
pub accepted-none : (s : Progress) → Accepted s [] s
unfolding accepted line_starts lines
accepted-none s = record { whole = λ rest. refl; start = refl; state = refl }

accepted-more : (s t : Progress) (a b : List (List ℕ)) → accepted s a ≡ Some t → accepted s (a ++ b) ≡ accepted t b
unfolding accepted
accepted-more s t [] b h = ap (λ (o : Option Progress). accepted (unwrap_or o s) b) h
accepted-more s t (line ∷ a) b h = go (verdict s line) h (λ u. accepted-more u t a b)
  where
    go : (v : Verdict) → if_accepted v (λ u. accepted u a) ≡ Some t → ((u : Progress) → accepted u a ≡ Some t → accepted u (a ++ b) ≡ accepted t b)
        → if_accepted v (λ u. accepted u (a ++ b)) ≡ accepted t b
    go (Verdict.Heading u) h more = more (Progress.Rows u) h
    go (Verdict.Row u) h more = more (Progress.Rows u) h
    go Verdict.Refused h more = absurd (cc)

pub accepted-behind : (s t u : Progress) (x y : List ℕ) → Accepted s x t → Accepted t y u → Accepted s (x ++ y) u
accepted-behind s t u x y p q =
    record {
      whole = λ rest.
          ap lines (append_assoc x y rest) ∙ p.whole (y ++ rest) ∙ ap (λ (l : List (List ℕ)). lines x ++ l) (q.whole rest) ∙ sym (append_assoc (lines x) (lines y) (lines rest))
          ∙ ap (λ (l : List (List ℕ)). l ++ lines rest) (sym (p.whole y));
      start = starts-behind x y p.start q.start;
      state = ap (accepted s) (p.whole y) ∙ accepted-more s t (lines x) (lines y) p.state ∙ q.state;
    }

-- a line that an LF ends
accepted-line : (s t : Progress) (x line : List ℕ) → ((rest : List ℕ) → lines (x ++ (lf ∷ rest)) ≡ line ∷ lines rest) → accepted s (line ∷ []) ≡ Some t → Accepted s (x ++ (lf ∷ [])) t
unfolding lines
accepted-line s t x line l e =
    record {
      whole = λ rest. ap lines (append_assoc x (lf ∷ []) rest) ∙ l rest ∙ ap (λ (m : List (List ℕ)). m ++ lines rest) (sym (l []));
      start = starts-lf x;
      state = ap (accepted s) (l []) ∙ e;
    }

-- where a verdict is found for it
accepted_at : (s : Progress) (x line : List ℕ) (v : Verdict) (from used : ℕ) → ((rest : List ℕ) → lines (x ++ (lf ∷ rest)) ≡ line ∷ lines rest) → v ≡ verdict s line
    → (after_line s v from used).goes_on ≡ true → Accepted s (x ++ (lf ∷ [])) (after_line s v from used).progress
unfolding accepted
accepted_at s x line (Verdict.Heading t) from used l e on = accepted-line s (Progress.Rows t) x line l (rw (← e) refl)
accepted_at s x line (Verdict.Row t) from used l e on = accepted-line s (Progress.Rows t) x line l (rw (← e) refl)
accepted_at s x line Verdict.Refused from used l e on = clash false on refl

-- each of them has the next number
abbrev rows_of : Verdict → ℕ
rows_of (Verdict.Heading t) = t.rows
rows_of (Verdict.Row t) = t.rows
rows_of Verdict.Refused = 0

number-next : (s : Progress) (line : List ℕ) → (t : RowsSoFar) → (verdict s line ≡ Verdict.Heading t) ⊎ (verdict s line ≡ Verdict.Row t) → t.rows + 2 ≡ line_number s + 1
unfolding verdict
number-next Progress.Start line t e = go (params_of line) e
  where
    go : (o : Option ImDetectParams) → (opened o ≡ Verdict.Heading t) ⊎ (opened o ≡ Verdict.Row t) → t.rows + 2 ≡ 2
    go (Some p) (inl e) = let z : t.rows ≡ 0 = sym (ap (λ (v : Verdict). rows_of v) e) in omega arith
    go (Some p) (inr e) = absurd (cc)
    go None (inl e) = absurd (cc)
    go None (inr e) = absurd (cc)
number-next (Progress.Rows s) line t e = go (row_text line) e
  where
    more : (n : ℕ) (b : Bool)
        → (cond b (Verdict.Row (record { params = s.params; count = n; rows = s.rows + 1 })) Verdict.Refused ≡ Verdict.Heading t)
        ⊎ (cond b (Verdict.Row (record { params = s.params; count = n; rows = s.rows + 1 })) Verdict.Refused ≡ Verdict.Row t)
        → t.rows + 2 ≡ s.rows + 2 + 1
    more n true (inl e) = absurd (cc)
    more n true (inr e) = let z : t.rows ≡ s.rows + 1 = sym (ap (λ (v : Verdict). rows_of v) e) in omega arith
    more n false (inl e) = absurd (cc)
    more n false (inr e) = absurd (cc)

    go : (o : Option ℕ) → (counted s o ≡ Verdict.Heading t) ⊎ (counted s o ≡ Verdict.Row t) → t.rows + 2 ≡ s.rows + 2 + 1
    go (Some n) e = more n (is_next s n) e
    go None (inl e) = absurd (cc)
    go None (inr e) = absurd (cc)

numbers : (s t : Progress) (ls : List (List ℕ)) → accepted s ls ≡ Some t → line_number t ≡ line_number s + length ls
unfolding accepted
numbers s t [] h = sym (ap (λ (o : Option Progress). line_number (unwrap_or o s)) h) ∙ sym (add-zero (line_number s))
numbers s t (line ∷ ls) h = go (verdict s line) (λ u e. number-next s line u e) h (λ u. numbers u t ls)
  where
    go : (v : Verdict) → ((u : RowsSoFar) → (v ≡ Verdict.Heading u) ⊎ (v ≡ Verdict.Row u) → u.rows + 2 ≡ line_number s + 1) → if_accepted v (λ u. accepted u ls) ≡ Some t
        → ((u : Progress) → accepted u ls ≡ Some t → line_number t ≡ line_number u + length ls) → line_number t ≡ line_number s + suc (length ls)
    go (Verdict.Heading u) n h more = omega (arith, n u (inl refl), more (Progress.Rows u) h)
    go (Verdict.Row u) n h more = omega (arith, n u (inr refl), more (Progress.Rows u) h)
    go Verdict.Refused n h more = absurd (cc)

pub line-number : LineNumber
line-number bytes s a = omega (arith, numbers Progress.Start s (lines bytes) a.state)

-- ---- a line that is refused, behind those that are accepted
pub refused-behind : (s t u : Progress) (x y : List ℕ) → Accepted s x t → EndedBy t y u → EndedBy s (x ++ y) u
refused-behind s t u x y p r =
    record {
      before = x ++ r.before;
      line = r.line;
      split = ap (λ (l : List ℕ). x ++ l) r.split ∙ sym (append_assoc x r.before r.line);
      accepted = accepted-behind s t u x r.before p r.accepted;
      refused = r.refused;
    }

-- one that an LF ends is refused, if the table ends with it
abbrev pub EndsAt : Progress → List ℕ → Fed → Type 0
EndsAt s x f = f.goes_on ≡ false → (f.progress ≡ s) × (ends_in_cr x ≡ true → verdict s (take (length x - 1) x) ≡ Verdict.Refused)

ends_at : (s : Progress) (x : List ℕ) (v : Verdict) (from used : ℕ) → v ≡ verdict s (take (length x - 1) x) → EndsAt s x (after_line s v from used)
ends_at s x (Verdict.Heading t) from used e off = clash true refl off
ends_at s x (Verdict.Row t) from used e off = clash true refl off
ends_at s x Verdict.Refused from used e off = (refl, λ c. sym e)

-- ---- the front of a buffer

-- what is written through the part `&mut out[a..]`
pub part-back : {A : Type 0} (out last : List A) (a : ℕ) → put_mid a (length out - a) out last ≡ take a out ++ last
part-back out last a =
    let none : drop (length out - a) (drop a out) ≡ [] = drop_of_length-le (drop a out) {i = length out - a} (simp length-drop (omega arith)) in
    simp (none, append-nil)

pub put-none : (s : Progress) (bytes out : List ℕ) → Put s bytes out out (record { progress = s; goes_on = true; from = 0; used = 0 })
put-none s bytes out = record { from = omega arith; used = omega arith; past = refl; text = λ rest. refl; idle = λ e. refl; accepted = λ on. accepted-none s; refused = λ off. clash true refl off }

-- the text T of a line that an LF ends
pub put-line : (s : Progress) (x out₀ out T : List ℕ) (f : Fed) → f.from ≡ length x + 1 → f.used ≡ length T → f.used ≤ length out₀
    → out ≡ T ++ drop f.used out₀ → ((rest : List ℕ) → text_from s (x ++ (lf ∷ rest)) ≡ T ++ text_left f rest)
    → no_lf x ≡ true → (f.goes_on ≡ true → Accepted s (x ++ (lf ∷ [])) f.progress) → EndsAt s x f → Put s (x ++ (lf ∷ [])) out₀ out f
put-line s x out₀ out T f e k u o t h good r =
    let a : take f.used out ≡ T = ap (take f.used) o ∙ take_at T (drop f.used out₀) f.used (sym k) in
    let all : length (x ++ (lf ∷ [])) ≤ f.from = simp length-append (omega arith) in
    let none : drop f.from (x ++ (lf ∷ [])) ≡ [] = drop_of_length-le (x ++ (lf ∷ [])) all in
    let whole : take f.from (x ++ (lf ∷ [])) ≡ x ++ (lf ∷ []) = take_all f.from (x ++ (lf ∷ [])) all in
    record {
      from = simp length-append (omega arith);
      used = u;
      past = ap (drop f.used) o ∙ drop_at T (drop f.used out₀) f.used (sym k);
      text = λ rest. ap (text_from s) (append_assoc x (lf ∷ []) rest) ∙ t rest ∙ rw (a, none);
      idle = λ z. absurd (omega arith);
      accepted = λ on. rw whole (good on);
      refused = λ off.
          let g = r off in
          rw (whole, g.0) (record { before = []; line = x ++ (lf ∷ []); split = refl; accepted = accepted-none s; refused = record { text = x; ended = refl; one = h; refused = g.1 } });
    }

module _ (s : Progress) (x : List ℕ) (h : no_lf x ≡ true) (out₀ out : List ℕ) (k : ℕ) (fits : k ≤ length out₀) where
  -- as one that a verdict is found for
  pub put_ended : ends_in_cr x ≡ true → (v : Verdict) → v ≡ verdict s (take (length x - 1) x) → k ≡ length (line_text (take (length x - 1) x) v)
      → out ≡ line_text (take (length x - 1) x) v ++ drop k out₀ → Put s (x ++ (lf ∷ [])) out₀ out (after_line s v (length x + 1) k)
  put_ended e v i n o =
      let u = after-used s v (length x + 1) k in
      put-line s x out₀ out (line_text (take (length x - 1) x) v) (after_line s v (length x + 1) k) (after-from s v (length x + 1) k) (u ∙ n) (rw u fits) (rw u o)
      (λ rest. text-ended s x h rest e ∙ rw (← i) (ap (λ (l : List ℕ). line_text (take (length x - 1) x) v ++ l) (left_after s v (length x + 1) k rest))) h
      (accepted_at s x (take (length x - 1) x) v (length x + 1) k (λ rest. lines-ended s x h rest e) i) (ends_at s x v (length x + 1) k i)

  -- and as one that lacks its CR
  pub put-lone : ends_in_cr x ≡ false → k ≡ length refusal → out ≡ refusal ++ drop k out₀
      → Put s (x ++ (lf ∷ [])) out₀ out (record { progress = s; goes_on = false; from = length x + 1; used = k })
  put-lone e n o =
      put-line s x out₀ out refusal (record { progress = s; goes_on = false; from = length x + 1; used = k }) refl n fits o
      (λ rest. text-lone s x h rest e ∙ sym (append-nil refusal)) h (λ on. clash false on refl) (λ off. (refl, λ c. clash (ends_in_cr x) c e))

-- and the text of the bytes behind it, at the part of the buffer behind it
pub put-more : (s : Progress) (bytes out₀ out x y last : List ℕ) (f g : Fed) → Put s bytes out₀ out f → f.goes_on ≡ true → f.used ≤ length out
    → drop f.from bytes ≡ x ++ y → Put f.progress x (drop f.used out) last g
    → Put s bytes out₀ (take f.used out ++ last) (record { progress = g.progress; goes_on = g.goes_on; from = f.from + g.from; used = f.used + g.used })
put-more s bytes out₀ out x y last f g p on fits e q =
    let lb : length bytes - f.from ≡ length x + length y = sym (length-drop f.from bytes) ∙ ap length e ∙ length-append x y in
    let lo : length out - f.used ≡ length out₀ - f.used = sym (length-drop f.used out) ∙ ap length p.past ∙ length-drop f.used out₀ in
    let lp : length (take f.used out) ≡ f.used = length-take-le f.used out fits in
    let gu : g.used ≤ length out - f.used = subst (λ (z : ℕ). g.used ≤ z) (length-drop f.used out) q.used in
    let seam : take (f.used + g.used) (take f.used out ++ last) ≡ take f.used out ++ take g.used last =
    subst (λ (z : ℕ). take (z + g.used) (take f.used out ++ last) ≡ take f.used out ++ take g.used last) lp (take-append-add (take f.used out) last g.used) in
    let behind : drop (f.used + g.used) (take f.used out ++ last) ≡ drop g.used last =
    subst (λ (z : ℕ). drop (z + g.used) (take f.used out ++ last) ≡ drop g.used last) lp (drop-append-add (take f.used out) last g.used) in
    let left : (rest : List ℕ) → drop g.from x ++ (y ++ rest) ≡ drop (f.from + g.from) bytes ++ rest =
    λ rest. sym (append_assoc (drop g.from x) y rest) ∙ ap (λ (l : List ℕ). l ++ rest) (sym (drop-append-le g.from x y q.from) ∙ ap (drop g.from) (sym e) ∙ drop-drop g.from f.from bytes) in
    let done : take (f.from + g.from) bytes ≡ take f.from bytes ++ take g.from x =
    take-add f.from g.from bytes ∙ ap (λ (l : List ℕ). take f.from bytes ++ take g.from l) e ∙ ap (λ (l : List ℕ). take f.from bytes ++ l) (take-append-le g.from x y q.from) in
    let start : (rest : List ℕ) → text_left f (drop f.from bytes ++ rest) ≡ text_from f.progress (x ++ (y ++ rest)) =
    λ rest. rw (on, e) (ap (text_from f.progress) (append_assoc x y rest)) in
    record {
      from = omega (arith, p.from, q.from);
      used = omega (arith, p.used);
      past = behind ∙ q.past ∙ ap (drop g.used) p.past ∙ drop-drop g.used f.used out₀;
      text = λ rest. p.text rest ∙ ap (λ (l : List ℕ). take f.used out ++ l) (start rest ∙ q.text (y ++ rest) ∙ ap (λ (l : List ℕ). take g.used last ++ text_left g l) (left rest))
          ∙ sym (append_assoc (take f.used out) (take g.used last) (text_left g (drop (f.from + g.from) bytes ++ rest)))
          ∙ rw seam;
      idle = λ z. omega (arith, p.idle (omega arith), q.idle (omega arith));
      accepted = λ go. rw done (accepted-behind s f.progress g.progress (take f.from bytes) (take g.from x) (p.accepted on) (q.accepted go));
      refused = λ off. rw done (refused-behind s f.progress g.progress (take f.from bytes) (take g.from x) (p.accepted on) (q.refused off));
    }

-- ---- the line that ends at an LF
module _ (bytes : List ℕ) (from i : ℕ) (h : next_line bytes from ≡ Some i) where
  pub line-place : (from ≤ i) × (i < length bytes)
  line-place =
      let t = lf-at from (drop from bytes) i h in
      let l : length bytes - from ≡ length t.0 + suc (length t.1) = sym (length-drop from bytes) ∙ ap length t.2 ∙ length-append t.0 (lf ∷ t.1) in
      (omega (arith, t.3), omega (arith, t.3))

  pub line-length : length (take (i - from) (drop from bytes)) ≡ i - from
  line-length = let b = line-place in length-take-le (i - from) (drop from bytes) (simp length-drop (omega (arith, b.1)))

  pub line-text : (no_lf (take (i - from) (drop from bytes)) ≡ true)
      × ((y : List ℕ) × (drop from bytes ≡ (take (i - from) (drop from bytes) ++ (lf ∷ [])) ++ y))
  line-text =
      let t = lf-at from (drop from bytes) i h in
      let n : length t.0 ≡ i - from = omega (arith, t.3) in
      let x : take (i - from) (drop from bytes) ≡ t.0 = ap (take (i - from)) t.2 ∙ take_at t.0 (lf ∷ t.1) (i - from) n in
      (ap no_lf x ∙ t.4, (t.1, t.2 ∙ sym (append_assoc t.0 (lf ∷ []) t.1) ∙ ap (λ (l : List ℕ). (l ++ (lf ∷ [])) ++ t.1) (sym x)))

-- what is printed from the start on is the table
pub whole-text : WholeText
whole-text bytes = refl

-- ---- bytes that are known to have no LF need not be searched
lf-past : (k n : ℕ) (bs : List ℕ) → no_lf (take n bs) ≡ true → lf_from (k + n) (drop n bs) ≡ lf_from k bs
unfolding lf_from no_lf
lf-past k zero bs h = rw (add-zero k)
lf-past k (suc n) [] h = refl
lf-past k (suc n) (b ∷ bs) h =
    let e : k + suc n ≡ k + 1 + n = omega arith in
    rw e (go (eqb b lf) h (lf-past (k + 1) n bs))
  where
    go : (e : Bool) → (not e && no_lf (take n bs)) ≡ true → (no_lf (take n bs) ≡ true → lf_from (k + 1 + n) (drop n bs) ≡ lf_from (k + 1) bs) → lf_from (k + 1 + n) (drop n bs) ≡ cond e (Some k) (lf_from (k + 1) bs)
    go true h r = clash false h refl
    go false h r = r h

pub next_past : (bytes : List ℕ) (seen : ℕ) → no_lf (take seen bytes) ≡ true → next_line bytes seen ≡ next_line bytes 0
next_past bytes seen h = let e : 0 + seen ≡ seen = omega arith in rw e at (lf-past 0 seen bytes h)
