-- What holds of printed numbers: a number's digits give the number back, are digits, and have no zero in front.
use mathlib.Core.Path.{◌≡◌, refl, sym, ◌∙◌, ap}
use mathlib.Core.Bool.{Bool, true, false, cond, ◌&&◌}
use mathlib.Core.List.{List, [], ◌∷◌, ◌++◌}
use Prim.Native.Nat.{ℕ, zero, suc, ◌≤◌, ◌<◌, ◌+◌, ◌-◌, ◌*◌, ◌/◌, ◌%◌, ◌^◌}
use native.Mathlib.Nat.{pow-suc}
use native.Mathlib.Omega.{arith}
use borrow.Author.Tests.{ltb-true, ltb-false, lt-ltb, le-ltb, le-leb}
use lib.Dec.{leb, ltb}
use lib.ListN.{length, get_or, length-append, get_or-append}
use Rattle.table_text.specs.Text.{all_digits, value_from, value}
use Rattle.table_text.specs.Print.{digit, digits_of, decimal, hex_digit, hex8, followed, places_of, floats_of}
use Rattle.table_text.specs.Facts.{DigitsBack, OnlyDigits, NoLeadingZero, LineMost, LongestRow, RoomEnough}
use Rattle.row_record.specs.declared.ImPeak1D.{ImPeak1D}

-- ---- lengths
pub digits-most : (k n : ℕ) → length (digits_of k n) ≤ k
unfolding digits_of
digits-most zero n = omega arith
digits-most (suc k) n = go (ltb n 10) (digits-most k (n / 10))
  where
    go : (b : Bool) → length (digits_of k (n / 10)) ≤ k → length (cond b (digit n ∷ []) (digits_of k (n / 10) ++ (digit (n % 10) ∷ []))) ≤ suc k
    go true h = omega arith
    go false h = simp length-append (omega arith)

pub digits-least : (k n : ℕ) → 1 ≤ length (digits_of (suc k) n)
unfolding digits_of
digits-least k n = go (ltb n 10)
  where
    go : (b : Bool) → 1 ≤ length (cond b (digit n ∷ []) (digits_of k (n / 10) ++ (digit (n % 10) ∷ [])))
    go true = omega arith
    go false = simp length-append (omega arith)

pub decimal-length : (n : ℕ) → (1 ≤ length (decimal n)) × (length (decimal n) ≤ 10)
decimal-length n = (digits-least 9 n, digits-most 10 n)

pub hex8-length : (w : ℕ) → length (hex8 w) ≡ 8
hex8-length w = refl

-- a peak's line has at most `line_bytes` bytes
pub number-most : (n : ℕ) → length (followed (decimal n)) ≤ 11
number-most n = let h : length (decimal n) ≤ 10 = digits-most 10 n in simp length-append (omega arith)

pub places-most : (p : ImPeak1D) → length (places_of p) ≤ 55
unfolding places_of
places-most p =
    let a : length (followed (decimal p.tof_row)) ≤ 11 = number-most p.tof_row in
    let b : length (followed (decimal p.scan)) ≤ 11 = number-most p.scan in
    let c : length (followed (decimal p.left)) ≤ 11 = number-most p.left in
    let d : length (followed (decimal p.right)) ≤ 11 = number-most p.right in
    let e : length (followed (decimal p.width_scans)) ≤ 11 = number-most p.width_scans in
    simp length-append (omega (arith, simp length-append at a, simp length-append at b, simp length-append at c, simp length-append at d, simp length-append at e))

pub floats-length : (p : ImPeak1D) → length (floats_of p) ≡ 37
unfolding floats_of
floats-length p = refl

pub line-most : LineMost
line-most p =
    let a : length (places_of p) ≤ 55 = places-most p in let b : length (floats_of p) ≡ 37 = floats-length p in simp length-append (omega arith)

-- the sizes that follow from others
pub longest-row : LongestRow
longest-row = refl

pub room-enough : RoomEnough
room-enough = refl

-- ---- ten digits are enough
tenth : (k n : ℕ) → n < 10 ^ suc k → n / 10 < 10 ^ k
tenth k n h = let e : n < 10 ^ k * 10 = rw pow-suc at h in omega arith

enough : (k n : ℕ) → n < 10 ^ suc k → digits_of (suc (suc k)) n ≡ digits_of (suc k) n
unfolding digits_of
enough zero n h = rw (lt-ltb n 10 h)
enough (suc k) n h = ap (λ (l : List ℕ). cond (ltb n 10) (digit n ∷ []) (l ++ (digit (n % 10) ∷ []))) (enough k (n / 10) (tenth (suc k) n h))

-- the digits of a number: one, or those of its tenth and the last
pub decimal-one : (n : ℕ) → n < 10 → decimal n ≡ digit n ∷ []
unfolding digits_of
decimal-one n h = rw (lt-ltb n 10 h)

pub decimal-more : (n : ℕ) → n < 2 ^ 32 → 10 ≤ n → decimal n ≡ decimal (n / 10) ++ (digit (n % 10) ∷ [])
unfolding digits_of
decimal-more n h k =
    let t : n / 10 < 1000000000 = omega arith in
    rw (le-ltb n 10 k) (ap (λ (l : List ℕ). l ++ (digit (n % 10) ∷ [])) (sym (enough 8 (n / 10) t)))

pub tenth-length : (n : ℕ) → n < 2 ^ 32 → length (decimal (n / 10)) ≤ 9
tenth-length n h =
    let t : n / 10 < 1000000000 = omega arith in
    let e : length (decimal (n / 10)) ≡ length (digits_of 9 (n / 10)) = ap length (enough 8 (n / 10) t) in
    let m : length (digits_of 9 (n / 10)) ≤ 9 = digits-most 9 (n / 10) in
    omega arith

-- ---- the number back from its digits
value-snoc : (v : ℕ) (x : List ℕ) (b : ℕ) → value_from v (x ++ (b ∷ [])) ≡ value_from v x * 10 + (b - 48)
unfolding value_from
value-snoc v [] b = refl
value-snoc v (d ∷ x) b = value-snoc (v * 10 + (d - 48)) x b

value-digits : (k n : ℕ) → n < 10 ^ suc k → value (digits_of (suc k) n) ≡ n
unfolding digits_of value_from
value-digits zero n h = rw (lt-ltb n 10 h) (omega arith)
value-digits (suc k) n h = go (ltb n 10) refl (value-digits k (n / 10) (tenth (suc k) n h))
  where
    go : (b : Bool) → ltb n 10 ≡ b → value (digits_of (suc k) (n / 10)) ≡ n / 10
        → value (cond b (digit n ∷ []) (digits_of (suc k) (n / 10) ++ (digit (n % 10) ∷ []))) ≡ n
    go true e r = omega arith
    go false e r = value-snoc 0 (digits_of (suc k) (n / 10)) (digit (n % 10)) ∙ rw r (omega arith)

pub value-decimal : DigitsBack
value-decimal n h = value-digits 9 n (let t : n < 10000000000 = omega arith in t)

digits-snoc : (x : List ℕ) (d : ℕ) → all_digits x ≡ true → d < 10 → all_digits (x ++ (digit d ∷ [])) ≡ true
unfolding all_digits
digits-snoc [] d h k = rw (le-leb 48 (48 + d) (omega arith), le-leb (48 + d) 57 (omega arith))
digits-snoc (b ∷ x) d h k = go (leb 48 b && leb b 57) h (digits-snoc x d)
  where
    go : (e : Bool) → (e && all_digits x) ≡ true → (all_digits x ≡ true → d < 10 → all_digits (x ++ (digit d ∷ [])) ≡ true) → (e && all_digits (x ++ (digit d ∷ []))) ≡ true
    go true h r = r h k
    go false h r = h

pub decimal-digits : OnlyDigits
unfolding digits_of all_digits
decimal-digits zero n = refl
decimal-digits (suc k) n = go (ltb n 10) refl (decimal-digits k (n / 10))
  where
    go : (b : Bool) → ltb n 10 ≡ b → all_digits (digits_of k (n / 10)) ≡ true
        → all_digits (cond b (digit n ∷ []) (digits_of k (n / 10) ++ (digit (n % 10) ∷ []))) ≡ true
    go true e r = digits-snoc [] n refl (ltb-true n 10 e)
    go false e r = digits-snoc (digits_of k (n / 10)) (n % 10) r (omega arith)

-- no zero in front of any number but 0
pub first-digit : NoLeadingZero
unfolding digits_of
first-digit zero n p h = rw (lt-ltb n 10 h) (omega arith)
first-digit (suc k) n p h = go (ltb n 10) refl (first-digit k (n / 10))
  where
    go : (b : Bool) → ltb n 10 ≡ b → (0 < n / 10 → n / 10 < 10 ^ suc k → 48 < get_or (digits_of (suc k) (n / 10)) 0 0)
        → 48 < get_or (cond b (digit n ∷ []) (digits_of (suc k) (n / 10) ++ (digit (n % 10) ∷ []))) 0 0
    go true e r = omega arith
    go false e r =
        let t : 10 ≤ n = ltb-false n 10 e in
        rw (get_or-append (digits_of (suc k) (n / 10)) (digit (n % 10) ∷ []) 0 0 (digits-least k (n / 10))) (r (omega arith) (tenth (suc k) n h))

-- ---- the digits of a word
pub hex_places : (d : ℕ) → d < 16 → get_or (48 ∷ 49 ∷ 50 ∷ 51 ∷ 52 ∷ 53 ∷ 54 ∷ 55 ∷ 56 ∷ 57 ∷ 97 ∷ 98 ∷ 99 ∷ 100 ∷ 101 ∷ 102 ∷ []) d 0 ≡ hex_digit d
unfolding hex_digit
hex_places zero h = refl
hex_places (suc zero) h = refl
hex_places (suc (suc zero)) h = refl
hex_places (suc (suc (suc zero))) h = refl
hex_places (suc (suc (suc (suc zero)))) h = refl
hex_places (suc (suc (suc (suc (suc zero))))) h = refl
hex_places (suc (suc (suc (suc (suc (suc zero)))))) h = refl
hex_places (suc (suc (suc (suc (suc (suc (suc zero))))))) h = refl
hex_places (suc (suc (suc (suc (suc (suc (suc (suc zero)))))))) h = refl
hex_places (suc (suc (suc (suc (suc (suc (suc (suc (suc zero))))))))) h = refl
hex_places (suc (suc (suc (suc (suc (suc (suc (suc (suc (suc zero)))))))))) h = refl
hex_places (suc (suc (suc (suc (suc (suc (suc (suc (suc (suc (suc zero))))))))))) h = refl
hex_places (suc (suc (suc (suc (suc (suc (suc (suc (suc (suc (suc (suc zero)))))))))))) h = refl
hex_places (suc (suc (suc (suc (suc (suc (suc (suc (suc (suc (suc (suc (suc zero))))))))))))) h = refl
hex_places (suc (suc (suc (suc (suc (suc (suc (suc (suc (suc (suc (suc (suc (suc zero)))))))))))))) h = refl
hex_places (suc (suc (suc (suc (suc (suc (suc (suc (suc (suc (suc (suc (suc (suc (suc zero))))))))))))))) h = refl
hex_places (suc (suc (suc (suc (suc (suc (suc (suc (suc (suc (suc (suc (suc (suc (suc (suc d)))))))))))))))) h = absurd (omega arith)
