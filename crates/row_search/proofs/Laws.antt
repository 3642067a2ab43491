-- What the proofs of `row_search` cite.
use mathlib.Core.Path.{◌≡◌, refl, sym, ap, ◌∙◌, subst}
use mathlib.Core.Bool.{Bool, true, false, cond, not, ◌&&◌, ◌||◌}
use mathlib.Core.List.{List, [], ◌∷◌, ◌++◌, append-nil}
use Prim.Native.Nat.{ℕ, zero, suc, ◌+◌, ◌-◌, ◌*◌, ◌/◌, ◌≤◌, ◌<◌}
use native.Mathlib.Omega.{arith}
use native.Mathlib.Numerals.{add-one}
use native.Mathlib.Nat.{zero-add}
use borrow.Rule.Slice.PartMut.{put_mid}
use borrow.Author.Tests.{ltb-true, ltb-false, lt-ltb, le-ltb}
use lib.Dec.{ltb, leb, lit<}
use lib.ListN.{length, get_or, take, drop, length-append, length-drop, drop_of_length-le, get_or-append}
use lib.Seq.{length-take-le, get_or-append-add, get_or-take, drop_at, take_all}
use lib.Ieee.{Float, binary32, lt, le, is_nan}
use lib.Ieee.Bits.{of_bits-to_bits}
use Rattle.numeric.specs.Arith.{at, 𝟎, ½, ◌⊕◌, ◌⊗◌, ◌⊖◌}
use Rattle.refusal.proofs.Bools.{clash}
use Rattle.numeric.proofs.Order.{lt-no-nan, lt_not_le, lt_trans, not-lt, lt-le-trans}
use Rattle.row_apex.specs.Apex.{baseline, prominence, half_height}
use Rattle.row_spans.specs.Span.{span_of}
use Rattle.row_params.specs.declared.ImDetectParams.{ImDetectParams}
use Rattle.row_apex.proofs.Candidates.{count}
use Rattle.row_turns.specs.Turns.{turn, apexes_of}
use Rattle.row_baselines.specs.Searched.{Searched}
use Rattle.row_spans.specs.declared.inner.Span.{Span}
use Rattle.row_search.specs.Suppression.{keep, keep_all}
use Rattle.row_search.proofs.Account.{keep-length, keep_all-append}
use Rattle.row_search.proofs.QualifyingLaws.{qualify-append, keep_one, kept_high}
use Rattle.row_search.specs.Qualifying.{highest_reading, reaches, left_x, right_x, width, qualifies, that_qualify, kept}
use Rattle.row_search.specs.Found.{measured_of, found_size, measured_words, measured_from, measured_at, with_measured, Fits, FoundAt, Found, oldest, keep_if, Newest, Keeps, kept_of, after}
use Rattle.row_search.specs.declared.inner.Measured.{Measured}
use Rattle.row_search.specs.declared.inner.Keeping.{Keeping}
use Rattle.std.proofs.Math.Bool.{or-false}

-- ---- the highest reading

-- one of the readings is no lower than the floor
unfoldable pub some : Float → List Float → Bool
some floor [] = false
some floor (v ∷ vs) = le floor v || some floor vs

-- a higher reading v after m
higher : (floor m v : Float) (s : Bool) → lt m v ≡ true → (not (lt v floor) || s) ≡ (not (lt m floor) || (le floor v || s))
higher floor m v s h = go (lt v floor) (lt m floor) refl refl
  where
    go : (a b : Bool) → lt v floor ≡ a → lt m floor ≡ b → (not a || s) ≡ (not b || (le floor v || s))
    go true true e g = rw (lt_not_le v floor e)
    go true false e g = clash (lt m floor) (lt_trans m v floor h e) g
    go false true e g = rw (not-lt v floor (lt-no-nan m v h).1 (lt-no-nan m floor g).1 e)
    go false false e g = refl

-- a reading v after m that is not higher
no-higher : (floor m v : Float) (s : Bool) → lt m v ≡ false → (not (lt m floor) || s) ≡ (not (lt m floor) || (le floor v || s))
no-higher floor m v s h = go (lt m floor) (le floor v) refl refl
  where
    go : (a b : Bool) → lt m floor ≡ a → le floor v ≡ b → (not a || s) ≡ (not a || (b || s))
    go true true e g = clash (lt m v) (lt-le-trans m floor v e g) h
    go true false e g = refl
    go false b e g = refl

-- the highest reaches the floor if one of them does
pub highest-reaches : (floor m : Float) (vs : List Float) → is_nan m ≡ false → not (lt (highest_reading m vs) floor) ≡ (not (lt m floor) || some floor vs)
unfolding highest_reading some
highest-reaches floor m [] n = sym (or-false _)
highest-reaches floor m (v ∷ vs) n = go (lt m v) refl (highest-reaches floor v vs) (highest-reaches floor m vs n)
  where
    go : (b : Bool) → lt m v ≡ b → (is_nan v ≡ false → not (lt (highest_reading v vs) floor) ≡ (not (lt v floor) || some floor vs))
        → not (lt (highest_reading m vs) floor) ≡ (not (lt m floor) || some floor vs)
        → not (lt (highest_reading (cond b v m) vs) floor) ≡ (not (lt m floor) || (le floor v || some floor vs))
    go true e f g = f (lt-no-nan m v e).1 ∙ higher floor m v (some floor vs) e
    go false e f g = g ∙ no-higher floor m v (some floor vs) e

-- ---- what is measured, in a list
-- It depends on its own words alone. Record's lemma of that name is the list of 27 other fields.
own-words : (l m : List ℕ) (a b : ℕ) → ((j : ℕ) → j < found_size → get_or l (a + j) 0 ≡ get_or m (b + j) 0) → measured_from l a ≡ measured_from m b
unfolding measured_from
own-words l m a b h =
    rw (h 0 (lit< tt), h 1 (lit< tt), h 2 (lit< tt), h 3 (lit< tt), h 4 (lit< tt), h 5 (lit< tt), h 6 (lit< tt), h 7 (lit< tt))

module _ (l : List ℕ) (j : ℕ) (m : Measured) (room : j * found_size + found_size ≤ length l) where
  front : length (take (j * found_size) l) ≡ j * found_size
  front = length-take-le (j * found_size) l (omega arith)

  -- the apexes in front stay
  before : (t : ℕ) → t < j → measured_at (with_measured l j m) t ≡ measured_at l t
  unfolding with_measured
  before t h =
      own-words (with_measured l j m) l (t * found_size) (t * found_size)
      (λ i b. get_or-append (take (j * found_size) l) (measured_words m ++ drop (j * found_size + found_size) l) 0 (t * found_size + i) (omega (arith, front))
      ∙ get_or-take (j * found_size) l (t * found_size + i) 0 (omega arith))

  inside : (t : ℕ) → get_or (with_measured l j m) (j * found_size + t) 0 ≡ get_or (measured_words m ++ drop (j * found_size + found_size) l) t 0
  unfolding with_measured
  inside t =
      subst
      (λ (n : ℕ). get_or (take (j * found_size) l ++ (measured_words m ++ drop (j * found_size + found_size) l)) (n + t) 0 ≡ get_or (measured_words m ++ drop (j * found_size + found_size) l) t 0)
      front
      (get_or-append-add (take (j * found_size) l) (measured_words m ++ drop (j * found_size + found_size) l) t 0)

  -- what was put is what is got
  got-back : Fits m → measured_at (with_measured l j m) j ≡ m
  unfolding measured_from
  got-back f =
      own-words (with_measured l j m) (measured_words m) (j * found_size) 0
      (λ t h. rw zero-add (inside t ∙ get_or-append (measured_words m) (drop (j * found_size + found_size) l) 0 t h))
      ∙ rw (
        of_bits-to_bits binary32 m.prominence f.prominence,
        of_bits-to_bits binary32 m.left_x f.left,
        of_bits-to_bits binary32 m.right_x f.right,
        of_bits-to_bits binary32 m.area f.area,
      )

-- those that stand in a list still do when one is put behind them
still : (y z : List Float) (l : List ℕ) (ks : List ℕ) (j : ℕ) (m : Measured) → j * found_size + found_size ≤ length l → length ks ≤ j
    → Found y z l ks → Found y z (with_measured l j m) ks
still y z l [] j m room h f = tt
still y z l (i ∷ older) j m room h f =
    (record { is = before l j m room (length older) (omega arith) ∙ f.0.is; low = f.0.low; high = f.0.high }, still y z l older j m room (omega arith) f.1)

pub put-new : (y z : List Float) (l older : List ℕ) (i j : ℕ) (m : Measured) → m ≡ measured_of y z i → 0 < i → i + 1 < length y
    → j ≡ length older → j * found_size + found_size ≤ length l → Fits m → Found y z l older → Found y z (with_measured l j m) (i ∷ older)
put-new y z l older i j m e low high q room g f = (
  record { is = ap (measured_at (with_measured l j m)) (sym q) ∙ got-back l j m room g ∙ e; low = low; high = high },
  still y z l older j m room (omega arith) f,
)

-- ---- an apex that is looked at
module _ (p : ImDetectParams) (y : List Float) (i : ℕ) (base : Float) (b : base ≡ baseline y i) where
  pub rise-is : at y i ⊖ base ≡ prominence y i
  unfolding prominence
  rise-is = rw b

  pub half_is : base ⊕ ½ ⊗ (at y i ⊖ base) ≡ half_height y i
  unfolding half_height prominence
  half_is = rw b

  pub too-low : lt (at y i ⊖ base) p.min_prom ≡ true → qualifies p y i ≡ false
  unfolding qualifies
  too-low h = rw (← rise-is, h)

  pub too-narrow : leb p.min_width_scans (width y i) ≡ false → qualifies p y i ≡ false
  unfolding qualifies
  too-narrow h = go (reaches p.min_prom (prominence y i))
    where
      go : (c : Bool) → (c && leb p.min_width_scans (width y i)) ≡ false
      go true = h
      go false = refl

  pub wide_enough : lt (at y i ⊖ base) p.min_prom ≡ false → leb p.min_width_scans (width y i) ≡ true → qualifies p y i ≡ true
  unfolding qualifies
  wide_enough h w = rw (← rise-is, h, w)

pub width_is : (y z : List Float) (i : ℕ) → (span_of y z (half_height y i) i).width ≡ width y i
unfolding span_of width left_x right_x
width_is y z i = refl

-- the parts of what is measured
pub measured-is : (y z : List Float) (i : ℕ) (s : Span) (r : Float) → s ≡ span_of y z (half_height y i) i → r ≡ prominence y i
    → record { index = i; left = s.left; right = s.right; width = s.width; prominence = r; left_x = s.left_x; right_x = s.right_x; area = s.area } ≡ measured_of y z i
unfolding measured_of
measured-is y z i s r e q = rw (e, q)

-- ---- what is kept then
not-kept : (p : ImDetectParams) (y : List Float) (ks : List ℕ) (i : ℕ) → qualifies p y i ≡ false → keep_if p y ks i ≡ ks
unfolding keep_if
not-kept p y ks i h = rw h

-- whether the apex at i is near the newest of those that are kept
abbrev near : ImDetectParams → Keeping → ℕ → Bool
near p s i = ltb 0 s.count && ltb (i - s.last) p.min_distance_scans

in-the-way : (p : ImDetectParams) (y : List Float) (i : ℕ) (s : Keeping) (ks : List ℕ) → s.count ≡ length ks → Newest ks s.last
    → near p s i ≡ true → le (at y i) (at y s.last) ≡ true → keep_if p y ks i ≡ ks
unfolding keep_if keep
in-the-way p y i s [] c w n h = let z : ltb 0 s.count ≡ false = le-ltb 0 s.count (omega arith) in clash false (rw z at n) refl
in-the-way p y i s (j ∷ older) c w n h =
    let one : ltb 0 s.count ≡ true = lt-ltb 0 s.count (omega arith) in
    let close : ltb (i - s.last) p.min_distance_scans ≡ true = rw one at n in
    go (qualifies p y i) (rw w close) (rw w h)
  where
    go : (q : Bool) → ltb (i - j) p.min_distance_scans ≡ true → le (at y i) (at y j) ≡ true
        → cond q (cond (ltb (i - j) p.min_distance_scans) (cond (le (at y i) (at y j)) (j ∷ older) (i ∷ older)) (i ∷ j ∷ older)) (j ∷ older) ≡ j ∷ older
    go true a b = rw (a, b)
    go false a b = refl

-- nothing changes where it is not kept
stays : {y z : List Float} {l : List ℕ} {i : ℕ} {s : Keeping} {ks ls : List ℕ} (t : Keeping) → t.count ≡ s.count → t.last ≡ s.last → ls ≡ ks
    → Keeps y z l i s ks → Keeps y z l (i + 1) t ls
stays {y} {z} {l} {i} {s} {ks} {ls} t c d e k =
    rw e (record { stand = k.stand; count = c ∙ k.count; newest = rw d k.newest; behind = λ h. let r = k.behind (omega arith) in omega arith })

pub unkept : {y z : List Float} {l : List ℕ} {i : ℕ} {s : Keeping} (p : ImDetectParams) (t : Keeping) → t.count ≡ s.count → t.last ≡ s.last
    → qualifies p y i ≡ false → (ks : List ℕ) → Keeps y z l i s ks → Keeps y z l (i + 1) t (keep_if p y ks i)
unkept {y} {z} {l} {i} {s} p t c d q ks k = stays t c d (not-kept p y ks i q) k

pub blocked : {y z : List Float} {l : List ℕ} {i : ℕ} {s : Keeping} (p : ImDetectParams)
    → near p s i ≡ true → le (at y i) (at y s.last) ≡ true → (ks : List ℕ) → Keeps y z l i s ks → Keeps y z l (i + 1) s (keep_if p y ks i)
blocked {y} {z} {l} {i} {s} p n h ks k = stays s refl refl (in-the-way p y i s ks k.count k.newest n h) k

pub place-le : (place a : ℕ) (b : Bool) → place ≡ cond b (a - 1) a → place ≤ a
place-le place a true e = omega arith
place-le place a false e = omega arith

-- it is kept, behind the newest or in its place
pub put-kept : {y z : List Float} {l : List ℕ} {i : ℕ} {s : Keeping} (p : ImDetectParams) (place depth : ℕ) (m : Measured)
    → m ≡ measured_of y z i → 0 < i → i + 1 < length y → s.count * found_size + found_size ≤ length l
    → Fits m → qualifies p y i ≡ true → (near p s i ≡ true → le (at y i) (at y s.last) ≡ false)
    → place ≡ cond (near p s i) (s.count - 1) s.count
    → (ks : List ℕ) → Keeps y z l i s ks → Keeps y z (with_measured l place m) (i + 1) (record { count = place + 1; last = i; depth = depth }) (keep_if p y ks i)
unfolding keep_if keep
put-kept {y} {z} {l} {i} {s} p place depth m e low high room g q higher at_place [] k =
    let none : ltb 0 s.count ≡ false = le-ltb 0 s.count (omega (arith, k.count)) in
    let here : place ≡ 0 = rw none at at_place ∙ k.count in
    rw q (record { stand = put-new y z l [] i place m e low high here (omega arith) g tt; count = rw here; newest = refl; behind = λ h. omega arith })
put-kept {y} {z} {l} {i} {s} p place depth m e low high room g q higher at_place (j ∷ older) k =
    go (ltb (i - j) p.min_distance_scans) (le (at y i) (at y j)) refl refl
  where
    d : ℕ
    d = p.min_distance_scans

    one : ltb 0 s.count ≡ true
    one = lt-ltb 0 s.count (omega (arith, k.count))

    new : (ks : List ℕ) → place ≡ length ks → Found y z l ks → Keeps y z (with_measured l place m) (i + 1) (record { count = place + 1; last = i; depth = depth }) (i ∷ ks)
    new ks h f = record { stand = put-new y z l ks i place m e low high h (let c = place-le place s.count (near p s i) at_place in omega arith) g f; count = rw (h, add-one); newest = refl; behind = λ g. omega arith }

    close : (b : Bool) → ltb (i - j) d ≡ b → near p s i ≡ b
    close b h = rw (one, ← k.newest, h)

    go : (b c : Bool) → ltb (i - j) d ≡ b → le (at y i) (at y j) ≡ c
        → Keeps y z (with_measured l place m) (i + 1) (record { count = place + 1; last = i; depth = depth })
        (cond (qualifies p y i) (cond (ltb (i - j) d) (cond (le (at y i) (at y j)) (j ∷ older) (i ∷ older)) (i ∷ j ∷ older)) (j ∷ older))
    go true true h g = clash (le (at y i) (at y j)) g (rw (← k.newest) at (higher (close true h)))
    go true false h g =
        let e : place ≡ s.count - 1 = rw (close true h) at at_place in rw (q, h, g) (new older (let c = k.count in omega arith) k.stand.1)
    go false c h g = rw (q, h) (new (j ∷ older) (rw (close false h) at at_place ∙ k.count) k.stand)

-- the height that is looked at is the half height
module _ (p : ImDetectParams) (y z : List Float) (i : ℕ) (base : Float) (b : base ≡ baseline y i) where
  pub wide_is : (r v : Bool) → r ≡ leb p.min_width_scans (span_of y z (base ⊕ ½ ⊗ (at y i ⊖ base)) i).width → r ≡ v → leb p.min_width_scans (width y i) ≡ v
  wide_is r v e h =
      sym (ap (λ (w : ℕ). leb p.min_width_scans w) (width_is y z i))
      ∙ sym (ap (λ (x : Float). leb p.min_width_scans (span_of y z x i).width) (half_is p y i base b))
      ∙ sym e
      ∙ h

  pub span-is : (s : Span) → s ≡ span_of y z (base ⊕ ½ ⊗ (at y i ⊖ base)) i → s ≡ span_of y z (half_height y i) i
  span-is s e = e ∙ ap (λ (x : Float). span_of y z x i) (half_is p y i base b)

-- ---- one candidate after another
pub after-le : {y : List Float} {turns bases : List ℕ} {m : ℕ} → Searched y turns bases m → (k : ℕ) → k < m → after turns k ≤ turn turns (2 * k + 1)
unfolding after
after-le s zero h = omega arith
after-le {y} {turns} s (suc k) h = let r = s.rise k (omega arith) in let e : 2 * suc k + 1 ≡ 2 * k + 3 = omega arith in rw e (omega arith)

pub after-step : (turns : List ℕ) (k : ℕ) → after turns (k + 1) ≡ turn turns (2 * k + 1) + 1
unfolding after
after-step turns k = rw add-one

pub kept-of-step : (p : ImDetectParams) (y : List Float) (turns : List ℕ) (k : ℕ) → kept_of p y turns (k + 1) ≡ keep_if p y (kept_of p y turns k) (turn turns (2 * k + 1))
unfolding kept_of
kept-of-step p y turns k = rw add-one

keep-if-length : (p : ImDetectParams) (y : List Float) (ks : List ℕ) (i : ℕ) → length (keep_if p y ks i) ≤ suc (length ks)
unfolding keep_if
keep-if-length p y ks i = go (qualifies p y i)
  where
    go : (b : Bool) → length (cond b (keep p.min_distance_scans y ks i) ks) ≤ suc (length ks)
    go true = keep-length p.min_distance_scans y ks i
    go false = omega arith

pub kept-of-count : (p : ImDetectParams) (y : List Float) (turns : List ℕ) (k : ℕ) → length (kept_of p y turns k) ≤ k
unfolding kept_of
kept-of-count p y turns zero = omega arith
kept-of-count p y turns (suc k) = omega (arith, kept-of-count p y turns k, keep-if-length p y (kept_of p y turns k) (turn turns (2 * k + 1)))

pub keeps-later : {y z : List Float} {l : List ℕ} {i : ℕ} {s : Keeping} {ks : List ℕ} (j : ℕ) → i ≤ j → Keeps y z l i s ks → Keeps y z l j s ks
keeps-later j h k = record { stand = k.stand; count = k.count; newest = k.newest; behind = λ g. let b = k.behind g in omega arith }

pub keeps-none : (y z : List Float) (l : List ℕ) (p : ImDetectParams) (turns : List ℕ) (s : Keeping) → s.count ≡ 0 → Keeps y z l (after turns 0) s (kept_of p y turns 0)
unfolding kept_of
keeps-none y z l p turns s e = record { stand = tt; count = e; newest = tt; behind = λ h. absurd (omega (arith, e)) }

-- what is kept of all candidates
kept-of-all : (p : ImDetectParams) (y : List Float) (turns : List ℕ) (m : ℕ) → kept_of p y turns m ≡ keep_all p.min_distance_scans y [] (that_qualify p y (apexes_of turns m))
unfolding kept_of apexes_of that_qualify keep_all keep_if
kept-of-all p y turns zero = refl
kept-of-all p y turns (suc m) =
    let d = p.min_distance_scans in
    let i = turn turns (2 * m + 1) in
    let qs = that_qualify p y (apexes_of turns m) in
    ap (λ (ks : List ℕ). keep_if p y ks i) (kept-of-all p y turns m)
    ∙ sym (keep_one p y (keep_all d y [] qs) i)
    ∙ sym (keep_all-append d y [] qs (that_qualify p y (i ∷ [])))
    ∙ ap (keep_all d y []) (sym (qualify-append p y (apexes_of turns m) (i ∷ [])))

pub kept-of-row : (p : ImDetectParams) (y z : List Float) (turns bases : List ℕ) (m : ℕ) → Searched y turns bases m
    → reaches p.min_prom (highest_reading 𝟎 z) ≡ true → kept_of p y turns m ≡ kept p y z
kept-of-row p y z turns bases m s h =
    kept-of-all p y turns m ∙ ap (λ (l : List ℕ). keep_all p.min_distance_scans y [] (that_qualify p y l)) (sym s.are) ∙ sym (kept_high p y z h)

-- no more apexes than every second sample
apexes-length : (turns : List ℕ) (m : ℕ) → length (apexes_of turns m) ≡ m
unfolding apexes_of
apexes-length turns zero = refl
apexes-length turns (suc m) = rw length-append (omega (arith, apexes-length turns m))

pub few-apexes : (y : List Float) (turns bases : List ℕ) (m : ℕ) → Searched y turns bases m → m ≤ (length y - 1) / 2
few-apexes y turns bases m s = omega (arith, count y, ap length s.are, apexes-length turns m)

-- ---- what writers ask: the kept apexes from the oldest on
pub record Next (y z : List Float) (found ks : List ℕ) (j : ℕ) : Type 0 where
  pub apex : ℕ
  pub is : oldest (j + 1) ks ≡ apex ∷ oldest j ks
  pub at_place : FoundAt y z found apex j
  pub count : length (oldest j ks) ≡ j

drop-in : {A : Type 0} (i : A) (l : List A) (a b : ℕ) → a ≡ suc b → drop a (i ∷ l) ≡ drop b l
drop-in i l a b e = rw e

pub next : (y z : List Float) (found ks : List ℕ) (j : ℕ) → j < length ks → Found y z found ks → Next y z found ks j
next y z found [] j h f = absurd (omega arith)
next y z found (i ∷ older) j h f = go (ltb j (length older)) refl (λ (g : j < length older). next y z found older j g f.1)
  where
    go : (b : Bool) → ltb j (length older) ≡ b → (j < length older → Next y z found older j) → Next y z found (i ∷ older) j
    go true e n =
        let g = ltb-true j (length older) e in
        let r = n g in
        let a : oldest (j + 1) (i ∷ older) ≡ oldest (j + 1) older = drop-in i older (suc (length older) - (j + 1)) (length older - (j + 1)) (omega arith) in
        let b : oldest j (i ∷ older) ≡ oldest j older = drop-in i older (suc (length older) - j) (length older - j) (omega arith) in
        record { apex = r.apex; is = a ∙ r.is ∙ ap (λ (l : List ℕ). r.apex ∷ l) (sym b); at_place = r.at_place; count = ap length b ∙ r.count }
    go false e n =
        let g : j ≡ length older = omega (arith, ltb-false j (length older) e) in
        let z : suc (length older) - (j + 1) ≡ 0 = omega arith in
        let b : oldest j (i ∷ older) ≡ older = drop-in i older (suc (length older) - j) 0 (omega arith) in
        record { apex = i; is = rw z (ap (λ (l : List ℕ). i ∷ l) (sym b)); at_place = rw g f.0; count = ap length b ∙ sym g }

pub none_yet : (ks : List ℕ) → oldest 0 ks ≡ []
none_yet ks = drop_of_length-le ks {i = length ks - 0} (omega arith)

-- ---- a list whose front stays while the rest is lent
abbrev pub rest_of : ℕ → List ℕ → List ℕ
rest_of m l = take (length l - m) (drop m l)

pub rest-length : (m : ℕ) (l : List ℕ) → length (rest_of m l) ≡ length l - m
rest-length m l = length-take-le (length l - m) (drop m l) (rw length-drop (omega arith))

module _ (l p : List ℕ) (m : ℕ) (fits : m ≤ length l) where
  pub put_front : (j : ℕ) → j < m → get_or (put_mid m (length l - m) l p) j 0 ≡ get_or l j 0
  put_front j h = get_or-append (take m l) _ 0 j (rw (length-take-le m l fits) h) ∙ get_or-take m l j 0 h

  pub put_rest : length p ≡ length l - m → rest_of m (put_mid m (length l - m) l p) ≡ p
  put_rest e =
      let none : drop (length l - m) (drop m l) ≡ [] = drop_of_length-le (drop m l) {i = length l - m} (simp length-drop (omega arith)) in
      let all : put_mid m (length l - m) l p ≡ take m l ++ p = rw (none, append-nil) in
      let n : length (take m l ++ p) - m ≡ length p = rw (length-append, length-take-le m l fits) (omega arith) in
      rw (all, n, drop_at (take m l) p m (length-take-le m l fits)) (take_all (length p) p (omega arith))

-- the index that is measured is that of the apex
pub measured-index : (y z : List Float) (i : ℕ) → (measured_of y z i).index ≡ i
unfolding measured_of
measured-index y z i = refl
