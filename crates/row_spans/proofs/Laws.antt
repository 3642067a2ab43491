-- What a kept span serves for, and the words of the memo.
use mathlib.Core.Path.{◌≡◌, refl, sym, ap, ◌∙◌}
use mathlib.Core.Bool.{true, false, cond, Bool}
use mathlib.Core.List.{List, ◌++◌}
use mathlib.Core.Logic.{⊎_elim}
use Prim.Native.Nat.{ℕ, ◌+◌, ◌-◌, ◌*◌, ◌≤◌, ◌<◌}
use native.Mathlib.Nat.{eq-or-lt_of_le, add-zero}
use native.Mathlib.Omega.{arith}
use borrow.Author.Tests.{lt-ltb, le-leb, lt-leb}
use lib.Dec.{leb}
use lib.ListN.{length, get_or, take, get_or-append}
use lib.Seq.{get_or-take, get_or-append-add, length-take-le}
use lib.Ieee.{Float, binary32, of_bits}
use Rattle.row_apex.specs.Apex.{left_foot, right_foot, left_crossing, right_crossing}
use Rattle.row_apex.proofs.Laws.{feet-same}
use Rattle.row_spans.specs.Span.{reach_of, span_of}
use Rattle.refusal.proofs.Bools.{clash}
use Rattle.std.specs.Prelude.{Option, Some, None, is_some}
use Rattle.row_spans.specs.Span.{if_wide}
use Rattle.row_spans.specs.Memo.{entry, word_of, kept_span, Serves, Memo, Looked}
use Rattle.row_spans.specs.Steps.{Between, Kept}
use Rattle.row_spans.specs.declared.inner.Reach.{Reach}
use Rattle.row_spans.specs.declared.inner.Span.{Span}

-- ---- all apexes between the feet have one span
left-same : (y : List Float) (h : Float) (i j : ℕ) → left_foot y h i < i → left_foot y h i < j → left_foot y h j ≡ left_foot y h i → left_crossing y h i ≡ left_crossing y h j
unfolding left_crossing
left-same y h i j a b e = rw (e, lt-ltb (left_foot y h i) i a, lt-ltb (left_foot y h i) j b)

right-same : (y : List Float) (h : Float) (i j : ℕ) → i < right_foot y h i → j < right_foot y h i → right_foot y h j ≡ right_foot y h i → right_crossing y h i ≡ right_crossing y h j
unfolding right_crossing
right-same y h i j a b e = rw (e, lt-ltb i (right_foot y h i) a, lt-ltb j (right_foot y h i) b)

pub span_same : (y z : List Float) (h : Float) (i j : ℕ) → i < length y → left_foot y h i < i → i < right_foot y h i → left_foot y h i < j → j < right_foot y h i → span_of y z h i ≡ span_of y z h j
unfolding span_of
span_same y z h i j n a b c d =
    let f = feet-same y h i j c d n in
    rw (left-same y h i j a c f.left, right-same y h i j b d f.right)

-- ---- the words of the memo
module _ (memo R rest after : List ℕ) (a : ℕ) (fits : a ≤ length memo) (e : after ≡ take a memo ++ (R ++ rest)) where
  -- the word at place j of what was written, and those before it
  pub word-new : (j : ℕ) → j < length R → get_or after (a + j) 0 ≡ get_or R j 0
  word-new j l =
      let n : length (take a memo) ≡ a = length-take-le a memo fits in
      ap (λ (m : List ℕ). get_or m (a + j) 0) e
      ∙ ap (λ (k : ℕ). get_or (take a memo ++ (R ++ rest)) (k + j) 0) (sym n)
      ∙ get_or-append-add (take a memo) (R ++ rest) j 0
      ∙ get_or-append R rest 0 j l

  pub word-old : (k : ℕ) → k < a → get_or after k 0 ≡ get_or memo k 0
  word-old k l =
      ap (λ (m : List ℕ). get_or m k 0) e
      ∙ get_or-append (take a memo) (R ++ rest) 0 k (rw (length-take-le a memo fits) l)
      ∙ get_or-take a memo k 0 l

-- ---- the spans of the memo
-- entries that have the same words
pub span-words : (m n : List ℕ) (t : ℕ) → ((j : ℕ) → j < entry → word_of m t j ≡ word_of n t j) → kept_span m t ≡ kept_span n t
unfolding kept_span
span-words m n t e = rw (e 3 (omega arith), e 4 (omega arith), e 5 (omega arith), e 6 (omega arith), e 7 (omega arith), e 8 (omega arith))

serves-words : (y z : List Float) (m n : List ℕ) (i k t : ℕ) → i ≤ k → ((j : ℕ) → j < entry → word_of n t j ≡ word_of m t j) → Serves y z m i t → Serves y z n k t
serves-words y z m n i k t l e s = record {
  behind = omega (arith, s.behind, e 1 (omega arith));
  serves = λ j a b. span-words n m t e ∙ s.serves j (omega (arith, e 1 (omega arith))) (omega (arith, e 2 (omega arith))) ∙ ap (λ (w : ℕ). span_of y z (of_bits binary32 w) j) (sym (e 0 (omega arith)));
}

-- none at first; the first of them, also further right
pub memo-none : (y z : List Float) (m : List ℕ) (i : ℕ) → Memo y z m 0 i
memo-none y z m i = record { few = omega arith; all = λ t h. absurd (omega arith) }

pub memo-fewer : (y z : List Float) (m : List ℕ) (d e i : ℕ) → e ≤ d → Memo y z m d i → Memo y z m e i
memo-fewer y z m d e i l g = record { few = omega (arith, g.few); all = λ t h. g.all t (omega arith) }

pub memo-later : (y z : List Float) (m : List ℕ) (d i k : ℕ) → i ≤ k → Memo y z m d i → Memo y z m d k
memo-later y z m d i k l g = record { few = g.few; all = λ t h. serves-words y z m m i k t l (λ j b. refl) (g.all t h) }

-- and one more that was measured at i
module _ (y z : List Float) (h : Float) (i from to d : ℕ) (s : Span) (m n : List ℕ) where
  pub memo-more : i < length y → d * entry + entry ≤ length m → length n ≡ length m → from ≡ left_foot y h i → to ≡ right_foot y h i → Between from to i
      → s ≡ span_of y z h i → Kept h from to s d m n → Memo y z m d i → Memo y z n (d + 1) (i + 1)
  memo-more l room len p q b e k g = record {
    few = omega arith;
    all = λ t v. ⊎_elim (λ w. rw w new) (λ w. serves-words y z m n i (i + 1) t (omega arith) (λ j r. k.others (t * entry + j) (omega arith)) (g.all t (omega arith))) (eq-or-lt_of_le {n = t} {m = d} (omega arith));
  }
    where
      new : Serves y z n (i + 1) d
      new = record {
        behind = omega (arith, k.left, b.behind);
        serves = λ j v w.
            k.span
            ∙ e
            ∙ span_same y z h i j l (omega (arith, b.behind)) (omega (arith, b.before)) (omega (arith, k.left)) (omega (arith, k.right))
            ∙ ap (λ (x : Float). span_of y z x j) (sym k.height);
      }

-- ---- what is seen of an apex
module _ (y z : List Float) (h : Float) (i : ℕ) (r : Reach) (e : r ≡ reach_of y h i) where
  pub reach-left : r.left_foot ≡ left_foot y h i
  unfolding reach_of
  reach-left = ap (λ (r : Reach). r.left_foot) e

  pub reach-right : r.right_foot ≡ right_foot y h i
  unfolding reach_of
  reach-right = ap (λ (r : Reach). r.right_foot) e

  pub reach-width : r.width ≡ (span_of y z h i).width
  unfolding reach_of span_of
  reach-width = ap (λ (r : Reach). r.width) e

module _ (y z : List Float) (h : Float) (i least d : ℕ) (s : Span) (m : List ℕ) (g : Memo y z m d (i + 1)) where
  pub looked : {r : Option Span} → r ≡ if_wide least s → s ≡ span_of y z h i → Looked y z h i least m (record { span = r; depth = d })
  looked w e = record { span = w ∙ ap (if_wide least) e; kept = g }

  pub looked-narrow : (w : ℕ) → w ≡ (span_of y z h i).width → w < least → Looked y z h i least m (record { span = None; depth = d })
  looked-narrow w e l = record { span = rw (← e, lt-leb least w l); kept = g }

  pub looked-wide : (w : ℕ) → w ≡ (span_of y z h i).width → least ≤ w → s ≡ span_of y z h i → Looked y z h i least m (record { span = Some s; depth = d })
  looked-wide w e l k = record { span = ap (λ (r : Span). Some r) k ∙ sym (ap (λ (b : Bool). cond b (Some (span_of y z h i)) None) (ap (leb least) (sym e) ∙ le-leb least w l)); kept = g }

-- the last of d spans serves
pub serves-at : (y z : List Float) (h : Float) (i d w : ℕ) (m : List ℕ) (s : Span) → Memo y z m d i → 0 < d → i < word_of m (d - 1) 2
    → get_or m ((d - 1) * entry) 0 ≡ w → of_bits binary32 w ≡ h → s ≡ kept_span m (d - 1) → s ≡ span_of y z h i
serves-at y z h i d w m s g p b e f k =
    let v = g.all (d - 1) (omega arith) in
    let q : word_of m (d - 1) 0 ≡ w = rw add-zero e in
    k ∙ v.serves i v.behind b ∙ ap (λ (x : Float). span_of y z x i) (ap (of_bits binary32) q ∙ f)

-- ---- a span that is answered only where it is wide enough
pub none-narrow : (least : ℕ) (s : Span) → if_wide least s ≡ None → leb least s.width ≡ false
none-narrow least s e = go (leb least s.width) e
  where
    go : (b : Bool) → cond b (Some s) None ≡ None → b ≡ false
    go true e = clash true refl (ap is_some e)
    go false e = refl

pub some-wide : (least : ℕ) (s a : Span) → if_wide least s ≡ Some a → (leb least s.width ≡ true) × (a ≡ s)
some-wide least s a e = go (leb least s.width) e
  where
    got : Option Span → Span
    got (Some x) = x
    got None = s

    go : (b : Bool) → cond b (Some s) None ≡ Some a → (b ≡ true) × (a ≡ s)
    go true e = (refl, sym (ap got e))
    go false e = clash true refl (sym (ap is_some e))
