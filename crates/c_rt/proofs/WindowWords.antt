-- The word of the first call, and what it leaves in the lent list.
use mathlib.Core.Path.{◌≡◌, refl, sym, ap, subst, ◌∙◌}
use mathlib.Core.Bool.{Bool, true, false, cond}
use mathlib.Core.List.{List, [], ◌∷◌, ◌++◌}
use Prim.Native.Nat.{ℕ, ◌<◌, ◌≤◌, ◌^◌, max}
use native.Mathlib.Omega.{arith}
use borrow.Author.Tests.{ne_eqb, ltb-true, le-ltb}
use lib.Dec.{eqb, ltb}
use lib.ListN.{length, drop}
use lib.Ieee.{Float, binary32, to_bits}
use mathlib.Core.Option.{none, some}
use Rattle.std.specs.Prelude.{Option, Some, None, Ok}
use Rattle.refusal.specs.Refusal.{Check, first_of, ascending_from}
use Rattle.refusal.specs.Answers.{Says, answer_by}
use Rattle.refusal.specs.Numbered.{says}
use Rattle.refusal.proofs.Bools.{both}
use Rattle.refusal.proofs.RefusalLaws.{lowest_by}
use Rattle.row_record.specs.Record.{peak_at}
use Rattle.row_record.specs.declared.ImPeak1D.{ImPeak1D}
use Rattle.rt_params.specs.declared.RtExpandParams.{RtExpandParams}
use Rattle.expand_padded_window.specs.declared.Frames.{Frames}
use Rattle.expand_padded_window.specs.FrameWindow.{padded_window}
use Rattle.expand_padded_window.proofs.Laws.{window-in}
use Rattle.expand_window.specs.declared.inner.RtWindow.{RtWindow}
use Rattle.expand_window.specs.Window.{with_sigma, window_of, window_checks, window_number}
use Rattle.expand_window.proofs.WindowLaws.{number_is, ready, sound-numbers}
use Rattle.c_word.specs.Word.{as_word, word_of, itself}
use Rattle.c_word.proofs.Words.{below, first_below, word_fits, word-told}
use Rattle.c_rt.specs.Window.{window_words, window_count, number_in, call_checks, call_number, CallLowest, with_window, CallTold}

-- ---- the number

-- one more check behind others
one_more : (m : ℕ) (cs : List Check) (c : Check) → ascending_from m cs ≡ true
    → first_of (cs ++ (c ∷ [])) ≡ cond (eqb (first_of cs) 0) (cond c.applies c.number 0) (first_of cs)
unfolding first_of ascending_from
one_more m [] c h = refl
one_more m (d ∷ cs) c h =
    let b = both (ltb m d.number) h in
    let some : m < d.number = ltb-true m d.number b.0 in
    go d.applies (one_more d.number cs c b.1) (omega (arith, some))
  where
    go : (a : Bool) → first_of (cs ++ (c ∷ [])) ≡ cond (eqb (first_of cs) 0) (cond c.applies c.number 0) (first_of cs) → 0 < d.number
        → cond a d.number (first_of (cs ++ (c ∷ [])))
        ≡ cond (eqb (cond a d.number (first_of cs)) 0) (cond c.applies c.number 0) (cond a d.number (first_of cs))
    go true ih k = rw (ne_eqb d.number 0 (λ z. omega (arith, z, k)))
    go false ih k = ih

module _ (peak ids : List ℕ) (times : List Float) (e : RtExpandParams) (room : ℕ) where
  front : ascending_from 0 (window_checks peak ids times e) ≡ true
  unfolding ascending_from
  front = refl

  ascending : ascending_from 0 (call_checks peak ids times e room) ≡ true
  unfolding ascending_from
  ascending = refl

  call-is : call_number peak ids times e room ≡ first_of (call_checks peak ids times e room)
  call-is =
      rw (number_is peak ids times e) (sym (one_more 0 (window_checks peak ids times e) (record { number = 20; applies = ltb room 3 }) front))

pub call-lowest : CallLowest
call-lowest peak ids times e room h = lowest_by (call_checks peak ids times e room) (call-is peak ids times e room) (ascending peak ids times e room) h

call-small : (peak ids : List ℕ) (times : List Float) (e : RtExpandParams) (room : ℕ) → call_number peak ids times e room < 64
unfolding below
call-small peak ids times e room = subst (λ (k : ℕ). k < 64) (sym (call-is peak ids times e room)) (first_below 64 (call_checks peak ids times e room) refl)

pub call-told : CallTold
call-told peak ids times e room =
    word-told window_count (call_number peak ids times e room) (window_of ids times e (peak_at peak 0)) (call-small peak ids times e room)

-- ---- what an answer of the first call tells

module _ (n : ℕ) (w : Option RtWindow) where
  pub none-refuses : (x : Option RtWindow) → says (Ok x) ≡ answer_by n w → 0 ≡ n
  none-refuses x h = ap (λ (s : Says (Option RtWindow)). s.number) h

  pub window-is : (x : Option RtWindow) → says (Ok x) ≡ answer_by n w → x ≡ w
  window-is x h =
      let z : n ≡ 0 = sym (none-refuses x h) in
      let v : some x ≡ cond (eqb n 0) (some w) none = ap (λ (s : Says (Option RtWindow)). s.values) h in
      let u : some x ≡ some w = rw z at v in
      cc

-- ---- the call

module _ (n : ℕ) (w : Option RtWindow) (was : List ℕ) where
  abbrev all : ℕ
  all = number_in n (length was)

  -- what is answered and left where there is a window, and where there is none
  pub put-some : (x : RtWindow) (is : List ℕ) → 0 ≡ n → Some x ≡ w → 3 ≤ length was → is ≡ (x.frames.lo ∷ x.frames.hi ∷ to_bits binary32 x.sigma ∷ []) ++ drop 3 was
      → (says (Ok 1) ≡ answer_by all (window_count w)) × (is ≡ cond (eqb all 0) (with_window was w) was)
  unfolding window_words window_count
  put-some x is z e h g = rw (← z, ← e, le-ltb (length was) 3 h) (refl, g)

  pub put-none : 0 ≡ n → None ≡ w → 3 ≤ length was
      → (says (Ok 0) ≡ answer_by all (window_count w)) × (was ≡ cond (eqb all 0) (with_window was w) was)
  unfolding window_words window_count
  put-none z e h = rw (← z, ← e, le-ltb (length was) 3 h) (refl, refl)

-- the word of the count is that of the window
pub same-word : (n : ℕ) (w : Option RtWindow) → word_of itself (answer_by n (window_count w)) ≡ word_of window_count (answer_by n w)
unfolding as_word
same-word n w = go (eqb n 0)
  where
    go : (b : Bool) → as_word itself n (cond b (some (window_count w)) none) ≡ as_word window_count n (cond b (some w) none)
    go true = refl
    go false = refl

pub word-small : (peak ids : List ℕ) (times : List Float) (e : RtExpandParams) (room : ℕ)
    → word_of itself (answer_by (call_number peak ids times e room) (window_count (window_of ids times e (peak_at peak 0)))) < 2 ^ 64
unfolding window_count
word-small peak ids times e room =
    let w = window_of ids times e (peak_at peak 0) in
    word_fits itself (call_number peak ids times e room) (window_count w) (call-small peak ids times e room) (λ z. omega (arith, count-few w))
  where
    count-few : (w : Option RtWindow) → window_count w ≤ 1
    count-few (Some x) = omega arith
    count-few None = omega arith

-- ---- places

unfoldable last_of : Option RtWindow → ℕ
last_of (Some w) = max w.frames.lo w.frames.hi
last_of None = 0

module _ (peak ids : List ℕ) (times : List Float) (e : RtExpandParams) where
  abbrev p : ImPeak1D
  p = peak_at peak 0

  last-few : window_number peak ids times e ≡ 0 → last_of (window_of ids times e (peak_at peak 0)) < 4294967296
  unfolding window_of with_sigma last_of
  last-few z = go (padded_window ids p.frame_id_lo p.frame_id_hi e.rt_pad_frames) refl
    where
      go : (f : Option Frames) → f ≡ padded_window ids p.frame_id_lo p.frame_id_hi e.rt_pad_frames
          → last_of (with_sigma e.smooth_sigma_sec times f) < 4294967296
      go (Some f) g =
          let r = ready peak ids times e z in
          let i = window-in ids p.frame_id_lo p.frame_id_hi e.rt_pad_frames f.lo f.hi (sound-numbers p r.sound) g in
          omega (arith, i.0, i.1, r.few)
      go None g = omega arith

  pub places-few : (x : RtWindow) (o : Option RtWindow) → says (Ok o) ≡ answer_by (window_number peak ids times e) (window_of ids times e (peak_at peak 0)) → Some x ≡ o
      → (x.frames.lo < 4294967296) × (x.frames.hi < 4294967296)
  unfolding last_of
  places-few x o h i =
      let n = window_number peak ids times e in
      let w = window_of ids times e (peak_at peak 0) in
      let f : max x.frames.lo x.frames.hi < 4294967296 =
      subst (λ (w : Option RtWindow). last_of w < 4294967296) (sym (i ∙ window-is n w o h)) (last-few (sym (none-refuses n w o h))) in (omega (arith, f), omega (arith, f))
