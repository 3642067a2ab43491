-- How the stack of a sweep changes: an entry leaves it, an entry is put on it.
use mathlib.Core.Path.{◌≡◌, refl, sym, ap, ◌∙◌}
use mathlib.Core.Bool.{Bool, true, false, cond}
use mathlib.Core.List.{List}
use mathlib.Core.Logic.{inl, inr}
use Prim.Native.Nat.{ℕ, zero, suc, ◌+◌, ◌-◌, ◌*◌, ◌≤◌, ◌<◌, min, max}
use native.Mathlib.Omega.{arith}
use native.Mathlib.Numerals.{add-one}
use native.Mathlib.Nat.{min_comm, eq-or-lt_of_le}
use borrow.Author.Tests.{lt-ltb, le-ltb, ltb-false, eqb-true, eqb-false}
use lib.Dec.{ltb, eqb}
use lib.ListN.{length, get_or, set, length-set}
use lib.Seq.{get_or-set_same, get_or-set_other}
use lib.Ieee.{Float}
use Rattle.numeric.specs.Plain.{AllPlain}
use Rattle.row_turns.specs.Turns.{turn, Turning}
use Rattle.row_baselines.specs.Lows.{left_low, right_low, left_low_of, base_at}
use Rattle.row_baselines.specs.Stack.{Marked, Swept, apex_at, gap_at, height_at, stack_low, Ahead, Stacked, Walks, Ends, Passes, Popped, based}

-- ---- the lower of three
min_assoc : (a b c : ℕ) → min a (min b c) ≡ min (min a b) c
min_assoc a b c = omega arith

min-swap : (a b c : ℕ) → min a (min b c) ≡ min b (min a c)
min-swap a b c = omega arith

-- ---- one step of a walk
-- over an entry that is not above h
pub passes : (mark : ℕ → ℕ) (stack : List ℕ) (h low t : ℕ) → height_at mark stack t ≤ h → stack_low mark stack h low (suc t) ≡ stack_low mark stack h (min (gap_at stack t) low) t
unfolding stack_low
passes mark stack h low t p = rw (le-ltb h (height_at mark stack t) p)

-- and as far as one that is
pub stops : (mark : ℕ → ℕ) (stack : List ℕ) (h low t : ℕ) → h < height_at mark stack t → stack_low mark stack h low (suc t) ≡ low
unfolding stack_low
stops mark stack h low t p = rw (lt-ltb h (height_at mark stack t) p)

-- over none
pub empty : (mark : ℕ → ℕ) (stack : List ℕ) (h low d : ℕ) → d ≡ 0 → low ≡ stack_low mark stack h low d
unfolding stack_low
empty mark stack h low d e = rw e

-- a number that is looked at before the walk may as well be looked at behind it
pub low-last : (mark : ℕ → ℕ) (stack : List ℕ) (h a b d : ℕ) → stack_low mark stack h (min a b) d ≡ min (stack_low mark stack h a d) b
unfolding stack_low
low-last mark stack h a b zero = refl
low-last mark stack h a b (suc t) = go (ltb h (height_at mark stack t)) (low-last mark stack h (min (gap_at stack t) a) b t)
  where
    go : (s : Bool) → stack_low mark stack h (min (min (gap_at stack t) a) b) t ≡ min (stack_low mark stack h (min (gap_at stack t) a) t) b
        → cond s (min a b) (stack_low mark stack h (min (gap_at stack t) (min a b)) t) ≡ min (cond s a (stack_low mark stack h (min (gap_at stack t) a) t)) b
    go true ih = refl
    go false ih = rw (min_assoc (gap_at stack t) a b) ih

-- the walks to the right
pub right-on : (mark : ℕ → ℕ) (m k x low : ℕ) → k < m → mark (2 * k + 1) ≤ x → right_low mark x low (m - k) k ≡ right_low mark x (min (mark (2 * k + 2)) low) (m - (k + 1)) (k + 1)
unfolding right_low
right-on mark m k x low h p = let e : m - k ≡ suc (m - (k + 1)) = omega arith in rw (e, le-ltb x (mark (2 * k + 1)) p)

pub ends-below : (mark : ℕ → ℕ) (m k : ℕ) → k < m → Ends mark m k (mark (2 * k + 1))
unfolding right_low
ends-below mark m k h x low p = let e : m - k ≡ suc (m - (k + 1)) = omega arith in rw (e, lt-ltb x (mark (2 * k + 1)) p)

-- none is behind the last apex
pub ends_last : (mark : ℕ → ℕ) (m h : ℕ) → Ends mark m m h
unfolding right_low
ends_last mark m h x low p = let e : m - m ≡ 0 = omega arith in rw e

-- ---- the top entry leaves the stack
module _ (mark : ℕ → ℕ) (m k : ℕ) (bases stack : List ℕ) (t low h : ℕ) (long : k ≤ length bases) (s : Stacked mark m k bases stack (suc t) low) (less : height_at mark stack t < h) (ends : Ends mark m k h) where
  top-base : max (get_or bases (apex_at stack t) 0) low ≡ base_at mark m (apex_at stack t)
  unfolding Ahead base_at
  top-base = rw (s.left t (omega arith), s.right.0, ends (height_at mark stack t) low less)

  other : (j : ℕ) → ((j ≡ apex_at stack t) → ⊥) → get_or (based bases stack t low) j 0 ≡ get_or bases j 0
  other j ne = get_or-set_other bases (apex_at stack t) j _ 0 ne

  lower-one : (u : ℕ) → u < t → apex_at stack u ≡ apex_at stack t → ⊥
  lower-one u p e = omega (arith, s.rises u t p (omega arith))

  pub pop-one : Stacked mark m k (based bases stack t low) stack t (min (gap_at stack t) low)
  unfolding Ahead
  pop-one = record {
    few = omega (arith, s.few);
    below = λ u p. s.below u (omega arith);
    rises = λ u v p q. s.rises u v p (omega arith);
    falls = λ u v p q. s.falls u v p (omega arith);
    left = λ u p. other (apex_at stack u) (lower-one u p) ∙ s.left u (omega arith);
    left_here = λ u p. other (apex_at stack u) (lower-one u p) ∙ s.left_here u (omega arith);
    right = s.right.1;
    settled = λ j p q. at_one j p q (eqb j (apex_at stack t)) refl;
  }
    where
      off : (j : ℕ) → ((u : ℕ) → u < t → apex_at stack u ≡ j → ⊥) → (j ≡ apex_at stack t → ⊥) → (u : ℕ) → u < suc t → apex_at stack u ≡ j → ⊥
      off j q ne u l e = elim (eq-or-lt_of_le l) [
        | inl r ↦ ne (sym e ∙ ap (apex_at stack) (omega arith))
        | inr r ↦ q u (omega arith) e
      ]

      at_one : (j : ℕ) → j < k → ((u : ℕ) → u < t → apex_at stack u ≡ j → ⊥) → (b : Bool) → eqb j (apex_at stack t) ≡ b
          → get_or (based bases stack t low) j 0 ≡ base_at mark m j
      at_one j p q true e = rw (eqb-true j (apex_at stack t) e, get_or-set_same bases (apex_at stack t) (max (get_or bases (apex_at stack t) 0) low) 0 (omega (arith, s.below t (omega arith)))) top-base
      at_one j p q false e = let ne : j ≡ apex_at stack t → ⊥ = eqb-false j (apex_at stack t) e in other j ne ∙ s.settled j p (off j q ne)

pub pop-passes : (mark : ℕ → ℕ) (k h : ℕ) (stack : List ℕ) (first t low : ℕ) → height_at mark stack t < h → Passes mark k h stack first (suc t) low
    → Passes mark k h stack first t (min (gap_at stack t) low)
pop-passes mark k h stack first t low less w x l q = w x l q ∙ passes mark stack x (min low l) t (omega arith) ∙ ap (λ (z : ℕ). stack_low mark stack x z t) (min_assoc (gap_at stack t) low l)

-- ---- the left low of the next apex
-- an equal apex on top is passed, and behind it the walk goes as its own went
pub equal-left : (mark : ℕ → ℕ) (m k : ℕ) (bases stack : List ℕ) (t low first h : ℕ) → Stacked mark m k bases stack (suc t) first → height_at mark stack t ≡ h
    → min (get_or bases (apex_at stack t) 0) low ≡ stack_low mark stack h low (suc t)
equal-left mark m k bases stack t low first h s e =
    rw (passes mark stack h low t (omega arith), low-last mark stack h (gap_at stack t) low t, ← e, s.left_here t (omega arith))

-- ---- an entry is put on the stack: below it nothing changes
module _ (mark : ℕ → ℕ) (stack stack' : List ℕ) (d : ℕ) (same-apex : (t : ℕ) → t < d → apex_at stack' t ≡ apex_at stack t) (same_gap : (t : ℕ) → t < d → gap_at stack' t ≡ gap_at stack t) where
  low_same : (h low t : ℕ) → t ≤ d → stack_low mark stack' h low t ≡ stack_low mark stack h low t
  unfolding stack_low
  low_same h low zero p = refl
  low_same h low (suc t) p = rw (same-apex t (omega arith), same_gap t (omega arith), low_same h (min (gap_at stack t) low) t (omega arith))

  -- the walks to the right that are still on pass the apex k
  ahead-on : (m k low t : ℕ) → k < m → t ≤ d → ((u : ℕ) → u < d → mark (2 * k + 1) ≤ height_at mark stack u) → Ahead mark m k stack low t
      → Ahead mark m (k + 1) stack' (min (mark (2 * k + 2)) low) t
  unfolding Ahead
  ahead-on m k low zero h p high a = tt
  ahead-on m k low (suc t) h p high a =
      let next = ahead-on m k (min (gap_at stack t) low) t h (omega arith) high a.1 in
      rw (same-apex t (omega arith), same_gap t (omega arith)) (a.0 ∙ right-on mark m k (height_at mark stack t) low h (high t (omega arith)), rw (min-swap (gap_at stack t) (mark (2 * k + 2)) low) next)

-- what holds at d and below it
to_last : (P : ℕ → Type 0) (d : ℕ) → P d → ((t : ℕ) → t < d → P t) → (t : ℕ) → t < d + 1 → P t
to_last P d p f t h = go (eqb t d) refl
  where
    go : (b : Bool) → eqb t d ≡ b → P t
    go true e = rw (eqb-true t d e) p
    go false e = let ne : t ≡ d → ⊥ = eqb-false t d e in f t (elim (eq-or-lt_of_le h) [
      | inl r ↦ absurd (ne (omega arith))
      | inr r ↦ omega arith
    ])

first-kept : (a b : ℕ) → min a (max a b) ≡ a
first-kept a b = omega arith

second-kept : (a b : ℕ) → min b (max a b) ≡ b
second-kept a b = omega arith

-- the left low that is found over the stack
pub left-found : (mark : ℕ → ℕ) (m k : ℕ) (bases stack : List ℕ) (d low : ℕ) → Popped mark m k (mark (2 * k + 1)) bases stack (mark (2 * k)) d low
    → stack_low mark stack (mark (2 * k + 1)) low d ≡ left_low_of mark k
left-found mark m k bases stack d low p =
    sym (rw (first-kept (mark (2 * k)) low, second-kept (mark (2 * k)) low) at (p.passes (mark (2 * k + 1)) (max (mark (2 * k)) low) (omega arith)))

module _ (mark : ℕ → ℕ) (m k : ℕ) (bases stack : List ℕ) (d low left : ℕ) (more : k < m) (long : k < length bases) (deep : 2 * d + 1 < length stack) (p : Popped mark m k (mark (2 * k + 1)) bases stack (mark (2 * k)) d low) (found : left ≡ stack_low mark stack (mark (2 * k + 1)) low d) where
  abbrev stack' : List ℕ
  stack' = set (set stack (2 * d) k) (2 * d + 1) low

  same-apex : (t : ℕ) → t < d → apex_at stack' t ≡ apex_at stack t
  same-apex t q = get_or-set_other (set stack (2 * d) k) (2 * d + 1) (2 * t) low 0 (λ e. omega arith) ∙ get_or-set_other stack (2 * d) (2 * t) k 0 (λ e. omega arith)

  same_gap : (t : ℕ) → t < d → gap_at stack' t ≡ gap_at stack t
  same_gap t q = get_or-set_other (set stack (2 * d) k) (2 * d + 1) (2 * t + 1) low 0 (λ e. omega arith) ∙ get_or-set_other stack (2 * d) (2 * t + 1) k 0 (λ e. omega arith)

  top-apex : apex_at stack' d ≡ k
  top-apex = get_or-set_other (set stack (2 * d) k) (2 * d + 1) (2 * d) low 0 (λ e. omega arith) ∙ get_or-set_same stack (2 * d) k 0 (omega arith)

  top-gap : gap_at stack' d ≡ low
  top-gap = get_or-set_same (set stack (2 * d) k) (2 * d + 1) low 0 (simp length-set (omega arith))

  base-other : (j : ℕ) → j < k → get_or (set bases k left) j 0 ≡ get_or bases j 0
  base-other j q = get_or-set_other bases k j left 0 (λ e. omega arith)

  base-top : get_or (set bases k left) k 0 ≡ left
  base-top = get_or-set_same bases k left 0 long

  pub push-walks : Walks mark (k + 1) stack' (d + 1)
  unfolding left_low stack_low
  push-walks x l =
      rw (add-one k, add-one d, top-apex, top-gap, low_same mark stack stack' d same-apex same_gap x (min low l) d (omega arith)) (go (ltb x (mark (2 * k + 1))) refl)
    where
      go : (b : Bool) → ltb x (mark (2 * k + 1)) ≡ b → cond b l (left_low mark x (min (mark (2 * k)) l) k) ≡ cond b l (stack_low mark stack x (min low l) d)
      go true e = refl
      go false e = p.passes x l (ltb-false x (mark (2 * k + 1)) e)

  pub push-one : Stacked mark m (k + 1) (set bases k left) stack' (d + 1) (mark (2 * (k + 1)))
  unfolding Ahead
  push-one =
      let s = p.stacked in
      let same = low_same mark stack stack' d same-apex same_gap in
      let e : 2 * (k + 1) ≡ 2 * k + 2 = omega arith in
      record {
        few = omega (arith, s.few);
        below = to_last (λ (t : ℕ). apex_at stack' t < k + 1) d (rw top-apex (omega arith)) (λ t q. rw (same-apex t q) (omega (arith, s.below t q)));
        rises = λ t u q r. to_last (λ (u : ℕ). t < u → apex_at stack' t < apex_at stack' u) d (λ q. rw (top-apex, same-apex t q) (s.below t q))
            (λ u o q. rw (same-apex t (omega arith), same-apex u o) (s.rises t u q o)) u r q;
        falls = λ t u q r. to_last (λ (u : ℕ). t ≤ u → height_at mark stack' u ≤ height_at mark stack' t) d
            (λ q. to_last (λ (t : ℕ). height_at mark stack' d ≤ height_at mark stack' t) d (omega arith) (λ t o. rw (top-apex, same-apex t o) (p.high t o)) t (omega arith))
            (λ u o q. rw (same-apex t (omega arith), same-apex u o) (s.falls t u q o)) u r q;
        left = to_last (λ (t : ℕ). get_or (set bases k left) (apex_at stack' t) 0 ≡ left_low_of mark (apex_at stack' t)) d
            (rw top-apex (base-top ∙ found ∙ left-found mark m k bases stack d low p))
            (λ t q. rw (same-apex t q) (base-other (apex_at stack t) (s.below t q) ∙ s.left t q));
        left_here = to_last (λ (t : ℕ). get_or (set bases k left) (apex_at stack' t) 0 ≡ stack_low mark stack' (height_at mark stack' t) (gap_at stack' t) t) d
            (rw (top-apex, top-gap) (base-top ∙ found ∙ sym (same (mark (2 * k + 1)) low d (omega arith))))
            (λ t q. rw (same-apex t q, same_gap t q) (base-other (apex_at stack t) (s.below t q) ∙ s.left_here t q ∙ sym (same (height_at mark stack t) (gap_at stack t) t (omega arith))));
        right = rw (add-one d, top-apex, top-gap, e) (refl, rw (min_comm low (mark (2 * k + 2))) (ahead-on mark stack stack' d same-apex same_gap m k low d more (omega arith) p.high s.right));
        settled = λ j q off. let below : j < k = not_top j q (λ e. off d (omega arith) (top-apex ∙ sym e)) in
            base-other j below ∙ s.settled j below (λ t o e. off t (omega arith) (same-apex t o ∙ e));
      }
    where
      not_top : (j : ℕ) → j < k + 1 → (j ≡ k → ⊥) → j < k
      not_top j q ne = elim (eq-or-lt_of_le q) [
        | inl r ↦ absurd (ne (omega arith))
        | inr r ↦ omega arith
      ]

-- ---- the ends of the sweep
pub none-swept : (mark : ℕ → ℕ) (m : ℕ) (bases stack : List ℕ) → Swept mark m 0 bases stack 0
unfolding left_low stack_low Ahead
none-swept mark m bases stack = record {
  stacked = record {
    few = omega arith;
    below = λ t p. absurd (omega arith);
    rises = λ t u p q. absurd (omega arith);
    falls = λ t u p q. absurd (omega arith);
    left = λ t p. absurd (omega arith);
    left_here = λ t p. absurd (omega arith);
    right = tt;
    settled = λ j p q. absurd (omega arith);
  };
  walks = λ h low. refl;
}

-- ---- the turns are places of the row
valley-inside : (y : List Float) (turns : List ℕ) (m : ℕ) → Turning y turns m → (i : ℕ) → i ≤ m → turn turns (2 * (m - i)) < length y
valley-inside y turns m h zero p = let e : m - 0 ≡ m = omega arith in rw e h.inside
valley-inside y turns m h (suc i) p =
    let k = m - suc i in
    let e : 2 * (m - i) ≡ 2 * k + 2 = omega arith in
    let next = rw e at (valley-inside y turns m h i (omega arith)) in omega (arith, h.climbs k (omega arith), h.drops k (omega arith))

pub marked : (y : List Float) (turns : List ℕ) (m : ℕ) → AllPlain y → m ≤ 16777216 → Turning y turns m → Marked y turns m
marked y turns m plain few h =
    let valleys : (k : ℕ) → k ≤ m → turn turns (2 * k) < length y = λ k p. let e : m - (m - k) ≡ k = omega arith in rw e at (valley-inside y turns m h (m - k) (omega arith)) in
    record {
      plain = plain;
      few = few;
      turns-long = h.room;
      valleys = valleys;
      apexes = λ k p. let e : 2 * (k + 1) ≡ 2 * k + 2 = omega arith in let v = rw e at (valleys (k + 1) (omega arith)) in omega (arith, h.drops k p);
    }
