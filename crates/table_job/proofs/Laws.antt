-- Laws of text that is put behind other text, of bytes that move to the front of a buffer, and of how the table stands.
use mathlib.Core.Path.{◌≡◌, refl, sym, ◌∙◌, ap, subst}
use mathlib.Core.Bool.{true, false, cond}
use mathlib.Core.List.{List, [], ◌++◌, append_assoc, append-nil}
use Prim.Native.Nat.{ℕ, ◌≤◌, ◌<◌, ◌+◌, ◌-◌}
use native.Mathlib.Omega.{arith}
use lib.ListN.{length, take, drop, length-append, length-drop, take-append-drop}
use lib.Seq.{drop-drop, take_at, take-add, take-take, take_all, take-append-le, drop_at, length-take-le}
use borrow.Rule.Slice.PartMut.{put_mid}
use Rattle.table_text.specs.declared.Progress.{Progress}
use Rattle.table_text.specs.Sizes.{max_line, line_room}
use Rattle.table_text.specs.Print.{put_at}
use Rattle.table_text.specs.Lines.{no_lf}
use Rattle.table_text.proofs.Buffers.{put-part}
use Rattle.table_lines.specs.declared.inner.Fed.{Fed}
use Rattle.table_lines.specs.Refused.{line_starts, Accepted, Overlong, RefusedLast}
use Rattle.table_lines.specs.Bytes.{text_from, Put, Through}
use Rattle.table_lines.proofs.Laws.{starts-behind, accepted-none, accepted-behind}
use Rattle.refusal.proofs.Bools.{clash}
use mathlib.Core.Logic.{inl, inr}
use Rattle.table_job.specs.declared.inner.Job.{Job}
use Rattle.table_job.specs.Stands.{first, held, at_front, with_bytes, handed_over, over, Within, Ready, Added, Reached, Stands, Ends, StandsFirst, StandsRead, StandsWritten, EndsRefused}
use Rattle.std.proofs.lemmas.List.{take_rest}

-- ---- text behind the text that waits

-- T has been put to the front of the take_rest `&mut out[w..]`
pub added : (out T last : List ℕ) (w k : ℕ) → w ≤ length out → k ≡ length T → k ≤ length (take (length out - w) (drop w out))
    → last ≡ T ++ drop k (take (length out - w) (drop w out)) → Added out (put_mid w (length out - w) out last) T w (w + k)
added out T last w k h e u l =
    let r : k ≤ length out - w = rw (take_rest out w, length-drop) at u in
    record { count = omega arith; room = omega arith; text = put-part out T last w k e l }

-- the text that waits then
added-front : (out₀ out x : List ℕ) (w n : ℕ) → w ≤ length out₀ → Added out₀ out x w n → take n out ≡ take w out₀ ++ x
unfolding put_at
added-front out₀ out x w n h a =
    let l : length (take w out₀ ++ x) ≡ n = rw (length-append, length-take-le w out₀ h) (sym a.count) in
    ap (take n) (a.text ∙ sym (append_assoc (take w out₀) x (drop (w + length x) out₀))) ∙ take_at (take w out₀ ++ x) (drop (w + length x) out₀) n l

-- ---- bytes that are held

-- as many of the held bytes as have been worked through are gone
pub held-rest : (buf : List ℕ) (from n k : ℕ) → k ≤ n → from + n ≤ length buf → drop k (take n (drop from buf)) ≡ take (n - k) (drop (from + k) buf)
held-rest buf from n k h b =
    let e : n ≡ k + (n - k) = omega arith in
    ap (λ (z : ℕ). drop k (take z (drop from buf))) e
    ∙ ap (drop k) (take-add k (n - k) (drop from buf))
    ∙ drop_at (take k (drop from buf)) (take (n - k) (drop k (drop from buf))) k (length-take-le k (drop from buf) (simp length-drop (omega arith)))
    ∙ ap (take (n - k)) (drop-drop k from buf)

-- ---- where a line starts, and which has been reached
starts-none : line_starts [] ≡ true
starts-none = (accepted-none Progress.Start).start

-- the same with more input behind it
reached-more : (input : List ℕ) (s : Progress) (x y : List ℕ) → Reached input s x → Reached (input ++ y) s (x ++ y)
reached-more input s x y r = record { done = r.done; split = ap (λ (l : List ℕ). l ++ y) r.split ∙ append_assoc r.done x y; accepted = r.accepted }

-- and behind lines that are accepted
reached-behind : (input : List ℕ) (s t : Progress) (x y : List ℕ) → Reached input s (x ++ y) → Accepted s x t → Reached input t y
reached-behind input s t x y r a =
    record { done = r.done ++ x; split = r.split ∙ sym (append_assoc r.done x y); accepted = accepted-behind Progress.Start s t r.done x r.accepted a }

-- of no bytes at all it does not matter in which buffer they stand
abbrev refused-front : (s : Progress) (from : ℕ) (buf₀ buf : List ℕ) → from ≡ 0 → RefusedLast s (take from buf₀) → RefusedLast s (take from buf)
refused-front s from buf₀ buf z r = record { before = r.before; line = r.line; split = rw z (rw z at r.split); start = r.start; refused = r.refused }

-- ---- how the table stands
pub stands-first : StandsFirst
stands-first buf out =
    record {
      text = λ rest. refl;
      accepted = λ on. record { done = []; split = refl; accepted = accepted-none Progress.Start };
      refused = λ off. clash true refl off;
    }

pub stands_read : StandsRead
stands_read input gone buf₀ buf out j k f e s =
    let new = take k (drop j.have buf) in
    let a : j.have + k - j.from ≡ j.have + k = omega (arith, f) in
    let b : j.have - j.from ≡ j.have = omega (arith, f) in
    let h : held buf (with_bytes j k) ≡ held buf₀ j ++ new = rw (a, b, f) (take-add j.have k buf ∙ ap (λ (z : List ℕ). z ++ new) e) in
    record {
      text = λ rest. rw (append_assoc input new rest, h, append_assoc (held buf₀ j) new rest) (s.text (new ++ rest));
      accepted = λ on. rw h (reached-more input j.progress (held buf₀ j) new (s.accepted on));
      refused = λ off.
          let t = s.refused off in
          (refused-front j.progress j.from buf₀ buf f t.0, rw h (rw (append_assoc t.0.line (held buf₀ j) new) at (reached-more input j.progress (t.0.line ++ held buf₀ j) new t.1)));
    }

pub stands-written : StandsWritten
stands-written input gone buf out j s =
    record {
      text = λ rest. s.text rest ∙ sym (append_assoc gone (take j.waiting out) (cond j.goes_on (text_from j.progress (held buf j ++ rest)) []));
      accepted = s.accepted;
      refused = s.refused;
    }

pub ends-refused : EndsRefused
ends-refused input gone buf out j off s = record { text = rw (append-nil input, off, append-nil (take j.waiting out)) at (s.text []) }

-- ---- after lines

-- the job after the lines that `put_lines` worked through
abbrev pub after_lines : Job → Fed → Job
after_lines j f = record { progress = f.progress; from = j.from + f.from; have = j.have; seen = 0; waiting = j.waiting + f.used; goes_on = f.goes_on }

pub record LinesDone (buf out₀ out : List ℕ) (j r : Job) : Type 0 where
  pub within : Within buf (length out₀) r
  pub keeps : (input gone : List ℕ) → Stands input gone buf out₀ j → Stands input gone buf out r
  pub through : r.goes_on ≡ true → r.waiting + line_room ≤ length out₀ → no_lf (held buf r) ≡ true
  pub refused : r.goes_on ≡ false → RefusedLast r.progress (take r.from buf)

pub lines-done : (buf out last : List ℕ) (j : Job) (f : Fed) → Within buf (length out) j → j.goes_on ≡ true
    → length last ≡ length (take (length out - j.waiting) (drop j.waiting out))
    → Put j.progress (held buf j) (take (length out - j.waiting) (drop j.waiting out)) last f
    → Through (held buf j) (take (length out - j.waiting) (drop j.waiting out)) f
    → LinesDone buf out (put_mid j.waiting (length out - j.waiting) out last) j (after_lines j f)
unfolding no_lf
lines-done buf out last j f w on k p t =
    let P = take (length out - j.waiting) (drop j.waiting out) in
    let wt = w.text in
    let wo = w.order in
    let wb = w.bytes in
    let l_p : length P ≡ length out - j.waiting = ap length (take_rest out j.waiting) ∙ length-drop j.waiting out in
    let n : length (take f.used last) ≡ f.used = length-take-le f.used last (omega (arith, p.used)) in
    let l : last ≡ take f.used last ++ drop f.used P = sym (take-append-drop f.used last) ∙ ap (λ (z : List ℕ). take f.used last ++ z) p.past in
    let hl : length (held buf j) ≡ j.have - j.from = length-take-le (j.have - j.from) (drop j.from buf) (simp length-drop (omega arith)) in
    let b : f.from ≤ j.have - j.from = omega (arith, p.from) in
    let m : j.have - j.from - f.from ≡ j.have - (j.from + f.from) = omega arith in
    let hr : held buf (after_lines j f) ≡ drop f.from (held buf j) = rw (← m) (sym (held-rest buf j.from (j.have - j.from) f.from b (omega arith))) in
    let a : Added out (put_mid j.waiting (length out - j.waiting) out last) (take f.used last) j.waiting (j.waiting + f.used) = added out (take f.used last) last j.waiting f.used wt (sym n) p.used l in
    let fr = added-front out (put_mid j.waiting (length out - j.waiting) out last) (take f.used last) j.waiting (j.waiting + f.used) wt a in
    let first : take f.from (held buf j) ≡ take f.from (drop j.from buf) = take-take f.from (j.have - j.from) (drop j.from buf) b in
    let done : take (j.from + f.from) buf ≡ take j.from buf ++ take f.from (held buf j) = take-add j.from f.from buf ∙ ap (λ (z : List ℕ). take j.from buf ++ z) (sym first) in
    let start = w.start on in
    let ended : f.goes_on ≡ false → RefusedLast f.progress (take (j.from + f.from) buf) =
    λ off. let r = p.refused off in record {
      before = take j.from buf ++ r.before;
      line = r.line;
      split = done ∙ ap (λ (l : List ℕ). take j.from buf ++ l) r.split ∙ sym (append_assoc (take j.from buf) r.before r.line);
      start = starts-behind (take j.from buf) r.before start r.accepted.start;
      refused = inl r.refused;
    } in
    record {
      within = record { order = omega arith; bytes = wb; seen = refl; start = λ go. rw done (starts-behind (take j.from buf) (take f.from (held buf j)) start (p.accepted go).start); text = a.room };
      keeps = λ input gone s.
          let a = s.accepted on in
          let both : held buf j ≡ take f.from (held buf j) ++ drop f.from (held buf j) = sym (take-append-drop f.from (held buf j)) in
          record {
            text = λ rest. s.text rest ∙ rw (on, fr, hr, p.text rest, append_assoc (take j.waiting out) (take f.used last));
            accepted = λ go. rw hr (reached-behind input j.progress f.progress (take f.from (held buf j)) (drop f.from (held buf j)) (subst (Reached input j.progress) both a) (p.accepted go));
            refused = λ off.
                let r = p.refused off in
                let b : held buf j ≡ r.before ++ (r.line ++ drop f.from (held buf j)) =
                both ∙ ap (λ (l : List ℕ). l ++ drop f.from (held buf j)) r.split ∙ append_assoc r.before r.line (drop f.from (held buf j)) in
                (ended off, rw hr (reached-behind input j.progress f.progress r.before (r.line ++ drop f.from (held buf j)) (subst (Reached input j.progress) b a) r.accepted));
          };
      through = λ go room. ap no_lf hr ∙ t go (omega (arith, l_p));
      refused = ended;
    }

-- ---- with the bytes at the front
module _ (buf buf' : List ℕ) (j : Job) (e : take (j.have - j.from) buf' ≡ held buf j) where
  pub front-held : held buf' (at_front j) ≡ held buf j
  front-held = let z : j.have - j.from - 0 ≡ j.have - j.from = omega arith in rw z e

  pub front-stands : (input gone out : List ℕ) → j.goes_on ≡ true → Stands input gone buf out j → Stands input gone buf' out (at_front j)
  front-stands input gone out on s =
      record { text = λ rest. s.text rest ∙ rw (on, front-held); accepted = λ go. rw front-held (s.accepted on); refused = λ off. clash true refl off }

  pub front-within : (room : ℕ) → j.have - j.from ≤ length buf' → no_lf (held buf j) ≡ true → j.waiting ≤ room → Within buf' room (at_front j)
  front-within room h l w =
      let z : j.have - j.from - 0 ≡ j.have - j.from = omega arith in
      record { order = omega arith; bytes = h; seen = ap no_lf (rw z (take-take (j.have - j.from) (j.have - j.from) buf' (omega arith)) ∙ e) ∙ l; start = λ go. starts-none; text = w }

-- ---- at the end of the table
pub over-within : (buf : List ℕ) (room m : ℕ) (j : Job) → j.have ≤ length buf → j.waiting + m ≤ room → Within buf room (over j m)
unfolding no_lf
over-within buf room m j h w = record { order = omega arith; bytes = h; seen = refl; start = λ go. clash false go refl; text = w }

pub over-stands : (input gone buf out out' : List ℕ) (j : Job) (m : ℕ) → j.waiting ≤ length out → j.goes_on ≡ true
    → take j.have buf ≡ held buf j → Overlong (held buf j)
    → ((rest : List ℕ) → Added out out' (text_from j.progress (held buf j ++ rest)) j.waiting (j.waiting + m))
    → Stands input gone buf out j → Stands input gone buf out' (over j m)
over-stands input gone buf out out' j m h on all long a s =
    let z : j.have - j.have ≡ 0 = omega arith in
    let none : held buf (over j m) ≡ [] = ap (λ (n : ℕ). take n (drop j.have buf)) z in
    record {
      text = λ rest.
          s.text rest ∙ rw on (ap (λ (z : List ℕ). gone ++ z) (sym (added-front out out' (text_from j.progress (held buf j ++ rest)) j.waiting (j.waiting + m) h (a rest)) ∙ sym (append-nil (take (j.waiting + m) out'))));
      accepted = λ on. clash false on refl;
      refused = λ off. (
        record { before = []; line = held buf j; split = all; start = starts-none; refused = inr long },
        rw (none, append-nil (held buf j)) (s.accepted on),
      );
    }

pub over-ends : (input gone buf out out' : List ℕ) (j : Job) (m : ℕ) → j.waiting ≤ length out → j.goes_on ≡ true → j.from ≡ 0
    → Added out out' (text_from j.progress (take j.have buf)) j.waiting (j.waiting + m) → Stands input gone buf out j → Ends input gone out' (over j m)
over-ends input gone buf out out' j m h on z a s =
    let b : j.have - j.from ≡ j.have = omega (arith, z) in
    let g : held buf j ++ [] ≡ take j.have buf = append-nil (held buf j) ∙ rw (b, z) in
    let t = rw (append-nil input, on, g) at (s.text []) in
    record { text = t ∙ ap (λ (x : List ℕ). gone ++ x) (sym (added-front out out' (text_from j.progress (take j.have buf)) j.waiting (j.waiting + m) h a)) }

pub ready-line : (buf : List ℕ) (room : ℕ) (j : Job) → Ready buf room j → no_lf (take j.have buf) ≡ true
ready-line buf room j r =
    let z = r.front in
    let b : j.have - j.from ≡ j.have = omega (arith, z) in
    let e : held buf j ≡ take j.have buf = rw (b, z) in
    ap no_lf (sym e) ∙ r.line

-- a line that fills the buffer
module _ (buf buf' o out' : List ℕ) (t r : Job) (e : take (t.have - t.from) buf' ≡ held buf t) (n : t.have - t.from ≡ length buf')
    (v : (rest : List ℕ) → (r ≡ over (at_front t) (length (text_from t.progress (buf' ++ rest)))) × Added o out' (text_from t.progress (buf' ++ rest)) t.waiting r.waiting)
  where
    all_held : held buf t ≡ buf'
    all_held = sym e ∙ take_all (t.have - t.from) buf' (omega arith)

    pub full-line : no_lf (held buf t) ≡ true → no_lf buf' ≡ true
    full-line h = ap no_lf (sym all_held) ∙ h

    pub full-off : r.goes_on ≡ false
    full-off = ap (λ (j : Job). j.goes_on) (v []).0

    pub full-refused : no_lf (held buf t) ≡ true → max_line < length buf' → RefusedLast r.progress (take r.from buf')
    full-refused h long =
        let q = (v []).0 in
        let g : r.from ≡ t.have - t.from = ap (λ (j : Job). j.from) q in
        let all : take r.from buf' ≡ buf' = take_all r.from buf' (omega arith) in
        rw all (record { before = []; line = buf'; split = refl; start = starts-none; refused = inr (full-line h, long) })

    pub full-within : (room : ℕ) → length o ≡ room → Within buf' room r
    full-within room k =
        let m = length (text_from t.progress (buf' ++ [])) in
        let q = (v []).0 in
        let a = (v []).1.room in
        let s : r.waiting ≡ t.waiting + m = ap (λ (j : Job). j.waiting) q in
        subst (Within buf' room) (sym q) (over-within buf' room m (at_front t) (omega arith) (omega arith))

    pub full-stands : (input gone : List ℕ) → t.waiting ≤ length o → t.goes_on ≡ true → no_lf (held buf t) ≡ true → max_line < length buf' → Stands input gone buf o t → Stands input gone buf' out' r
    full-stands input gone w on one long h =
        let m = length (text_from t.progress (buf' ++ [])) in
        let q = (v []).0 in
        let s : r.waiting ≡ t.waiting + m = ap (λ (j : Job). j.waiting) q in
        let b : held buf' (at_front t) ≡ buf' = front-held buf buf' t e ∙ all_held in
        subst (Stands input gone buf' out') (sym q)
        (over-stands input gone buf' o out' (at_front t) m w refl (take_all (t.have - t.from) buf' (omega arith) ∙ sym b) (rw b (full-line one, long)) (λ rest. rw b (subst (Added o out' (text_from t.progress (buf' ++ rest)) t.waiting) s (v rest).1))
        (front-stands buf buf' t e input gone o on h))

-- ---- between the steps

-- before the first read
pub within_first : (buf : List ℕ) (room : ℕ) → Within buf room first
unfolding no_lf
within_first buf room = record { order = omega arith; bytes = omega arith; seen = refl; start = λ go. starts-none; text = omega arith }

-- with no text that waits
pub within-written : (buf : List ℕ) (room : ℕ) (j : Job) → Within buf room j → Within buf room (handed_over j)
within-written buf room j w = record { order = w.order; bytes = w.bytes; seen = w.seen; start = w.start; text = omega arith }

-- after a read, behind the bytes that are held
module _ (buf₀ buf : List ℕ) (room : ℕ) (j : Job) (r : Ready buf₀ room j) (e : take j.have buf ≡ take j.have buf₀) (l : length buf ≡ length buf₀) where
  same-held : held buf j ≡ held buf₀ j
  same-held =
      let z = r.front in
      let b : j.have - j.from ≡ j.have = omega (arith, z) in
      rw (b, z) e

  pub ready_read : Ready buf room j
  ready_read = record { front = r.front; more = omega (arith, r.more); line = ap no_lf same-held ∙ r.line; text = r.text }

  pub stands-end : (input gone out : List ℕ) → Stands input gone buf₀ out j → Stands input gone buf out j
  stands-end input gone out s =
      record {
        text = λ rest. rw same-held (s.text rest);
        accepted = λ on. rw same-held (s.accepted on);
        refused = λ off. let t = s.refused off in (refused-front j.progress j.from buf₀ buf r.front t.0, rw same-held t.1);
      }

  pub within-read : (k : ℕ) → Within buf₀ room j → j.have + k ≤ length buf → Within buf room (with_bytes j k)
  within-read k w h =
      let z = r.front in
      let o = w.order in
      let wb = w.bytes in
      let new = take k (drop j.have buf) in
      let a : j.have + k - j.from ≡ j.have + k = omega (arith, z) in
      let b : j.have - j.from ≡ j.have = omega (arith, z) in
      let g : held buf (with_bytes j k) ≡ held buf₀ j ++ new = rw (a, b, z) (take-add j.have k buf ∙ ap (λ (x : List ℕ). x ++ new) e) in
      let n : length (held buf₀ j) ≡ j.have - j.from = length-take-le (j.have - j.from) (drop j.from buf₀) (simp length-drop (omega arith)) in
      record {
        order = omega arith;
        bytes = h;
        seen = ap (λ (x : List ℕ). no_lf (take j.seen x)) g ∙ ap no_lf (take-append-le j.seen (held buf₀ j) new (omega arith)) ∙ w.seen;
        start = λ go. rw z starts-none;
        text = w.text;
      }
