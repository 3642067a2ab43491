-- Laws of tables, of buffers that are filled from one place to another, and of weighted sums.
use mathlib.Core.Path.{◌≡◌, refl, sym, ◌∙◌, ap}
use mathlib.Core.Bool.{Bool, true, false, cond}
use mathlib.Core.List.{List, [], ◌∷◌, ◌++◌, map, map-append, append_assoc, append-nil}
use Prim.Native.Nat.{ℕ, zero, suc, ◌+◌, ◌-◌, ◌*◌, ◌/◌, ◌%◌, ◌≤◌, ◌<◌}
use native.Mathlib.Nat.{add-zero}
use native.Mathlib.Numerals.{add-one}
use native.Mathlib.Omega.{arith}
use borrow.Author.Tests.{lt-ltb, le-ltb, le-leb, lt-leb, ltb-true, ltb-false, leb-true, not-false}
use borrow.Rule.Slice.PartMut.{put_mid, Post-is, mid_len}
use lib.Dec.{ltb, eqb}
use lib.ListN.{length, drop, take, set, length-append, length-map, take-append-drop, drop_of_length-le, get_or-append}
use lib.Seq.{drop-cons, take-suc, take-length, set_at, get_or_at, take_at, drop_at, drop-drop, drop-length, length-take-le, ext_get_or}
use lib.Ieee.{Float, nan, lt}
use Rattle.std.specs.Prelude.{replicate}
use Rattle.refusal.proofs.Bools.{all4}
use Rattle.limits.specs.Limits.{max_weights}
use Rattle.numeric.specs.Arith.{◌⊕◌, ◌⊗◌, ◌⊘◌, 𝟎, at}
use Rattle.row_smoothing.specs.Smoothing.{tabulate, sum_from, normalised, radius, meets, weighted, met, smoothed_at, smoothed, sound_weights, smooth_number}
use Rattle.row_smoothing.proofs.SmoothLaws.{none-for}
use Rattle.row_smoothing.specs.Steps.{filled, added}

-- ---- tables
pub length-tab : (n : ℕ) (f : ℕ → Float) → length (tabulate n f) ≡ n
unfolding tabulate
length-tab zero f = refl
length-tab (suc n) f = let h : length (tabulate n f) ≡ n = length-tab n f in rw length-append (omega arith)

pub tab-ext : (n : ℕ) (f g : ℕ → Float) → ((i : ℕ) → i < n → f i ≡ g i) → tabulate n f ≡ tabulate n g
unfolding tabulate
tab-ext zero f g h = refl
tab-ext (suc n) f g h = rw (tab-ext n f g (λ i p. h i (omega arith)), h n (omega arith))

pub at-tab : (n : ℕ) (f : ℕ → Float) (i : ℕ) → i < n → at (tabulate n f) i ≡ f i
unfolding tabulate
at-tab zero f i h = absurd (omega arith)
at-tab (suc n) f i h = go (ltb i n) refl (λ p. at-tab n f i p)
  where
    go : (b : Bool) → ltb i n ≡ b → (i < n → at (tabulate n f) i ≡ f i) → at (tabulate n f ++ (f n ∷ [])) i ≡ f i
    go true e below =
        let p : i < n = ltb-true i n e in
        get_or-append (tabulate n f) (f n ∷ []) nan i (rw length-tab p) ∙ below p
    go false e below =
        let p : n ≤ i = ltb-false i n e in
        let q : i ≡ n = omega arith in
        rw q (get_or_at (tabulate n f) (f n) [] nan n (length-tab n f))

-- a list is the table of its readings
pub tab-list : (l : List Float) → tabulate (length l) (at l) ≡ l
tab-list l = ext_get_or nan _ _ (length-tab (length l) (at l)) (λ i h. at-tab (length l) (at l) i (rw length-tab at h))

pub map-tab : (g : Float → Float) (n : ℕ) (f : ℕ → Float) → map g (tabulate n f) ≡ tabulate n (λ i. g (f i))
unfolding tabulate
map-tab g zero f = refl
map-tab g (suc n) f = map-append g (tabulate n f) (f n ∷ []) ∙ rw (map-tab g n f)

pub tab-map : (g : Float → Float) (l : List Float) → map g l ≡ tabulate (length l) (λ i. g (at l i))
tab-map g l = ap (map g) (sym (tab-list l)) ∙ map-tab g (length l) (at l)

-- f 0, .. f (a - 1) and then f a, .. f (a + k - 1)
pub tab-add : (a k : ℕ) (f : ℕ → Float) → tabulate (a + k) f ≡ tabulate a f ++ tabulate k (λ j. f (j + a))
unfolding tabulate
tab-add a zero f = rw (add-zero, append-nil)
tab-add a (suc k) f =
    let e : a + suc k ≡ suc (a + k) = omega arith in
    let z : a + k ≡ k + a = omega arith in
    rw (e, ← append_assoc, ← tab-add a k f, z)

-- the same reading at every place
replicate_snoc : (n : ℕ) (v : Float) → replicate n v ++ (v ∷ []) ≡ v ∷ replicate n v
replicate_snoc zero v = refl
replicate_snoc (suc n) v = ap (λ l. v ∷ l) (replicate_snoc n v)

pub tab_replicate : (n : ℕ) (v : Float) → replicate n v ≡ tabulate n (λ i. v)
unfolding tabulate
tab_replicate zero v = refl
tab_replicate (suc n) v = sym (ap (λ l. l ++ (v ∷ [])) (sym (tab_replicate n v)) ∙ replicate_snoc n v)

-- what a list's part begins with
pub front : (l : List Float) (k : ℕ) (x : Float) (xs : List Float) → drop k l ≡ x ∷ xs → (k < length l) × (x ≡ at l k) × (xs ≡ drop (k + 1) l)
front l k x xs e = go (ltb k (length l)) refl
  where
    go : (b : Bool) → ltb k (length l) ≡ b → (k < length l) × (x ≡ at l k) × (xs ≡ drop (k + 1) l)
    go true h =
        let p = ltb-true k (length l) h in
        let d : x ∷ xs ≡ at l k ∷ drop (suc k) l = sym e ∙ drop-cons l k nan p in
        (p, ap (λ z. at z 0) d, rw add-one (ap (drop 1) d))
    go false h = let n : 0 ≡ length (x ∷ xs) = ap length (sym (drop_of_length-le l (ltb-false k (length l) h)) ∙ e) in absurd (omega arith)

-- ---- a buffer that is filled from a on
module _ (f : ℕ → Float) (a : ℕ) (d : List Float) where
  pub filled_none : filled f a a d ≡ d
  unfolding filled tabulate
  filled_none = let e : a - a ≡ 0 = omega arith in rw e (take-append-drop a d)

  -- what stands before the place b
  front_length : (b : ℕ) → a ≤ b → b ≤ length d → length (take a d ++ tabulate (b - a) (λ j. f (j + a))) ≡ b
  front_length b p q = rw (length-append, length-tab, length-take-le a d (omega arith)) (omega arith)

  pub filled_at : (b : ℕ) → a ≤ b → b < length d → at (filled f a b d) b ≡ at d b
  unfolding filled
  filled_at b p q =
      rw (← append_assoc, drop-cons d b nan q) (get_or_at (take a d ++ tabulate (b - a) (λ j. f (j + a))) (at d b) (drop (suc b) d) nan b (front_length b p (omega arith)))

  pub filled-step : (b : ℕ) → a ≤ b → b < length d → set (filled f a b d) b (f b) ≡ filled f a (b + 1) d
  unfolding filled tabulate
  filled-step b p q =
      let P = take a d ++ tabulate (b - a) (λ j. f (j + a)) in
      let e : b + 1 - a ≡ suc (b - a) = omega arith in
      let z : b - a + a ≡ b = omega arith in
      ap (λ x. set x b (f b)) (sym (append_assoc (take a d) (tabulate (b - a) (λ j. f (j + a))) (drop b d)) ∙ ap (λ x. P ++ x) (drop-cons d b nan q))
      ∙ set_at P (at d b) (drop (suc b) d) (f b) b (front_length b p (omega arith))
      ∙ sym (rw (e, add-one) (rw z (simp append_assoc)))

-- a turn of a loop that fills
pub filled-turn : (f : ℕ → Float) (a b : ℕ) (d x : List Float) (v : Float) → a ≤ b → b < length d → x ≡ filled f a b d → v ≡ f b
    → set x b v ≡ filled f a (b + 1) d
filled-turn f a b d x v p q e g = rw (e, g) (filled-step f a d b p q)

-- the places before a done, those from a to b are done next
pub filled-join : (f : ℕ → Float) (a b : ℕ) (d : List Float) → a ≤ b → b ≤ length d
    → filled f a b (tabulate a f ++ drop a d) ≡ tabulate b f ++ drop b d
unfolding filled
filled-join f a b d p q =
    let front = tabulate a f ++ drop a d in
    let e : a + (b - a) ≡ b = omega arith in
    let rest : drop b front ≡ drop b d =
    ap (λ m. drop m front) (sym e) ∙ sym (drop-drop (b - a) a front) ∙ ap (drop (b - a)) (drop_at (tabulate a f) (drop a d) a (length-tab a f)) ∙ drop-drop (b - a) a d ∙ ap (λ m. drop m d) e in
    rw (take_at (tabulate a f) (drop a d) a (length-tab a f), rest, ← append_assoc, ← tab-add, e)

pub filled-all : (f : ℕ → Float) (d : List Float) → filled f 0 (length d) d ≡ tabulate (length d) f
unfolding tabulate
filled-all f d = filled-join f 0 (length d) d (omega arith) (omega arith) ∙ rw (drop-length, append-nil)

pub filled-done : (f : ℕ → Float) (d x : List Float) (b : ℕ) → b ≡ length d → x ≡ filled f 0 b d → x ≡ tabulate (length d) f
filled-done f d x b e h = h ∙ rw e (filled-all f d)

-- three stretches, one after another
pub filled-thrice : (f : ℕ → Float) (a b n : ℕ) (d x y z : List Float) → a ≤ b → b ≤ n → n ≤ length d
    → x ≡ filled f 0 a d → y ≡ filled f a b x → z ≡ filled f b n y → z ≡ tabulate n f ++ drop n d
unfolding tabulate
filled-thrice f a b n d x y z p q r e g h =
    let first = e ∙ filled-join f 0 a d (omega arith) (omega arith) in
    let second = g ∙ ap (filled f a b) first ∙ filled-join f a b d p (omega arith) in
    h ∙ ap (filled f b n) second ∙ filled-join f b n d q r

-- the part from a to b, lent and filled
pub filled-part : (f : ℕ → Float) (a b : ℕ) (d last : List Float) → a ≤ b → b ≤ length d
    → last ≡ tabulate (length (take (b - a) (drop a d))) (λ j. f (j + a)) → put_mid a (b - a) d last ≡ filled f a b d
unfolding filled
filled-part f a b d last p q e = rw (Post-is a b d p, e, mid_len a b d q)

-- ---- sums of weights
pub sum-snoc : (a : Float) (l : List Float) (w : Float) → sum_from a (l ++ (w ∷ [])) ≡ sum_from a l ⊕ w
unfolding sum_from
sum-snoc a [] w = refl
sum-snoc a (v ∷ l) w = sum-snoc (a ⊕ v) l w

-- ---- which weights meet a reading
met-yes : (n r i k : ℕ) → r ≤ i + k → i + k < n + r → meets n r i k ≡ true
met-yes n r i k p q = rw (le-leb r (i + k) p, lt-ltb (i + k - r) n (omega arith))

met-before : (n r i k : ℕ) → i + k < r → meets n r i k ≡ false
met-before n r i k p = rw (lt-leb r (i + k) p)

met-after : (n r i k : ℕ) → n + r ≤ i + k → meets n r i k ≡ false
met-after n r i k p = rw (le-leb r (i + k) (omega arith), le-ltb (i + k - r) n (omega arith))

module _ (u y : List Float) (i : ℕ) where
  -- a weight that meets a reading
  pub weighted-in : (k : ℕ) → radius u ≤ i + k → i + k < length y + radius u
      → weighted u y i (k + 1) ≡ weighted u y i k ⊕ at u k ⊗ at y (i + k - radius u)
  unfolding weighted
  weighted-in k p q = rw (add-one, weighted, met-yes (length y) (radius u) i k p q)

  pub met-in : (k : ℕ) → radius u ≤ i + k → i + k < length y + radius u → met u (length y) i (k + 1) ≡ met u (length y) i k ⊕ at u k
  unfolding met
  met-in k p q = rw (add-one, met, met-yes (length y) (radius u) i k p q)

  -- the first weights, where they meet none
  pub none_before : (k : ℕ) → ((j : ℕ) → j < k → i + j < radius u) → (weighted u y i k ≡ 𝟎) × (met u (length y) i k ≡ 𝟎)
  unfolding weighted met
  none_before zero p = (refl, refl)
  none_before (suc k) p =
      let h = none_before k (λ j q. p j (omega arith)) in
      let e = met-before (length y) (radius u) i k (p k (omega arith)) in
      (rw e h.0, rw e h.1)

  -- the last weights, where they meet none
  pub none_after : (d k : ℕ) → ((j : ℕ) → k ≤ j → j < k + d → length y + radius u ≤ i + j)
      → (weighted u y i (k + d) ≡ weighted u y i k) × (met u (length y) i (k + d) ≡ met u (length y) i k)
  unfolding weighted met
  none_after zero k p = (rw add-zero, rw add-zero)
  none_after (suc d) k p =
      let h = none_after d k (λ j g l. p j g (omega arith)) in
      let s : k + suc d ≡ suc (k + d) = omega arith in
      let e = met-after (length y) (radius u) i (k + d) (p (k + d) (omega arith) (omega arith)) in
      rw s ((rw e h.0, rw e h.1))

  -- what the first k weights give, where the others meet none
  pub mean-by : (k : ℕ) (sum norm : Float) → k ≤ length u → ((j : ℕ) → k ≤ j → j < length u → length y + radius u ≤ i + j)
      → sum ≡ weighted u y i k → norm ≡ met u (length y) i k → cond (lt 𝟎 norm) (sum ⊘ norm) 𝟎 ≡ smoothed_at u y i
  unfolding smoothed_at
  mean-by k sum norm p h s n =
      let e : k + (length u - k) ≡ length u = omega arith in
      let r = rw e at (none_after (length u - k) k (λ j g l. h j g (omega arith))) in
      rw (s, n, r.0, r.1)

-- ---- where every weight meets a reading
added-tab : (y : List Float) (w : Float) (k c : ℕ) (f : ℕ → Float) → added y w k (tabulate c f) ≡ tabulate c (λ j. f j ⊕ w ⊗ at y (j + k))
unfolding added
added-tab y w k c f = rw length-tab (tab-ext c _ _ (λ j p. rw at-tab))

pub added-four : (y d : List Float) (w0 w1 w2 w3 : Float) (k k1 k2 k3 : ℕ)
    → tabulate (length d) (λ j. at d j ⊕ w0 ⊗ at y (j + k) ⊕ w1 ⊗ at y (j + k1) ⊕ w2 ⊗ at y (j + k2) ⊕ w3 ⊗ at y (j + k3))
    ≡ added y w3 k3 (added y w2 k2 (added y w1 k1 (added y w0 k d)))
unfolding added
added-four y d w0 w1 w2 w3 k k1 k2 k3 =
    let n = length d in
    sym
    (ap (λ x. added y w3 k3 (added y w2 k2 x)) (added-tab y w1 k1 n _) ∙ ap (added y w3 k3) (added-tab y w2 k2 n _) ∙ added-tab y w3 k3 n _)

module _ (u y : List Float) (c : ℕ) (room : c + length u / 2 * 2 ≤ length y) where
  met_all : (j k : ℕ) → j < c → k ≤ length u → met u (length y) (j + radius u) k ≡ sum_from 𝟎 (take k u)
  unfolding met sum_from
  met_all j zero p q = refl
  met_all j (suc k) p q =
      let h = met_all j k p (omega arith) in
      let e = met-yes (length y) (radius u) (j + radius u) k (omega arith) (omega arith) in
      rw (e, h, take-suc u k nan (omega arith), sum-snoc)

  norm-all : (j : ℕ) → j < c → met u (length y) (j + radius u) (length u) ≡ sum_from 𝟎 u
  norm-all j p = met_all j (length u) p (omega arith) ∙ rw take-length

  pub added-step : (k : ℕ) → k < length u
      → added y (at u k) k (tabulate c (λ j. weighted u y (j + radius u) k)) ≡ tabulate c (λ j. weighted u y (j + radius u) (k + 1))
  added-step k p =
      added-tab y (at u k) k c (λ j. weighted u y (j + radius u) k) ∙ tab-ext c _ _ (λ j q.
      let e : j + length u / 2 + k - length u / 2 ≡ j + k = omega arith in
      sym (weighted-in u y (j + radius u) k (omega arith) (omega arith) ∙ rw e))

  -- the sums after m weights, from those after k
  next : (k m : ℕ) → m ≡ k + 1 → k < length u
      → added y (at u k) k (tabulate c (λ j. weighted u y (j + radius u) k)) ≡ tabulate c (λ j. weighted u y (j + radius u) m)
  next k m e p = rw e (added-step k p)

  pub added-step-four : (k : ℕ) → k + 4 ≤ length u
      → added y (at u (k + 3)) (k + 3) (added y (at u (k + 2)) (k + 2) (added y (at u (k + 1)) (k + 1)
      (added y (at u k) k (tabulate c (λ j. weighted u y (j + radius u) k))))) ≡ tabulate c (λ j. weighted u y (j + radius u) (k + 4))
  added-step-four k p =
      rw (next k (k + 1) refl (omega arith), next (k + 1) (k + 2) (omega arith) (omega arith), next (k + 2) (k + 3) (omega arith) (omega arith))
      (next (k + 3) (k + 4) (omega arith) (omega arith))

  pub middle-mean : lt 𝟎 (sum_from 𝟎 u) ≡ true
      → map (λ a. a ⊘ sum_from 𝟎 u) (tabulate c (λ j. weighted u y (j + radius u) (length u))) ≡ tabulate c (λ j. smoothed_at u y (j + radius u))
  unfolding smoothed_at
  middle-mean t = map-tab (λ a. a ⊘ sum_from 𝟎 u) c (λ j. weighted u y (j + radius u) (length u)) ∙ tab-ext c _ _ (λ j q. sym (rw (norm-all j q, t)))

  pub middle-none : lt 𝟎 (sum_from 𝟎 u) ≡ false → tabulate c (λ j. 𝟎) ≡ tabulate c (λ j. smoothed_at u y (j + radius u))
  unfolding smoothed_at
  middle-none t = tab-ext c _ _ (λ j q. sym (rw (norm-all j q, t)))

-- ---- the entry
pub smoothed-length : (ws y : List Float) → length (smoothed ws y) ≡ length y
unfolding smoothed
smoothed-length ws y = length-tab (length y) _

pub normalised-length : (ws : List Float) → length (normalised ws) ≡ length ws
unfolding normalised
normalised-length ws = length-map ws _

pub sound-count : (ws : List Float) → sound_weights ws ≡ true → length ws ≤ max_weights
unfolding sound_weights
sound-count ws e = leb-true (length ws) max_weights (all4 (eqb (length ws % 2) 1) e).1

-- what holds where no number applies
pub none-applies : (v ws : List Float) (scratch : ℕ) → smooth_number v ws scratch ≡ 0 → (length v ≤ scratch) × (length ws ≤ max_weights)
none-applies v ws scratch e =
    (ltb-false scratch (length v) (none-for v ws scratch 21 e), sound-count ws (not-false (sound_weights ws) (none-for v ws scratch 6 e)))
