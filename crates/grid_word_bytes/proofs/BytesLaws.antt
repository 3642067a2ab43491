-- What holds of words in bytes: lengths, places, parts, and that nothing is lost either way.
use mathlib.Core.Path.{◌≡◌, refl, sym, ap, subst, ◌∙◌}
use mathlib.Core.Bool.{Bool, true, false}
use mathlib.Core.List.{List, [], ◌∷◌, ◌++◌}
use Prim.Native.Nat.{ℕ, zero, suc, ◌+◌, ◌*◌, ◌/◌, ◌%◌, ◌^◌, ◌≤◌, ◌<◌}
use native.Mathlib.Nat.{div-div-eq-div-mul}
use native.Mathlib.Omega.{arith}
use borrow.Author.Tests.{ltb-true, ltb-false}
use lib.Dec.{ltb}
use lib.ListN.{length, get_or, take, length-append, length-take, get_or-append, length-map}
use lib.Seq.{get_or_at}
use lib.Ieee.{nan, binary32, of_bits}
use Rattle.numeric.specs.Arith.{at}
use Rattle.grid_word_bytes.specs.Bytes.{word_at, words_to, words_of, floats_of, bytes_of_word, bytes_of}
use Rattle.grid_word_bytes.specs.BytesLaws.{WordsBack, BytesBack}
use Rattle.std.proofs.lemmas.List.{get_or-map}

-- ---- the words of bytes

-- how many there are, and the one at place k
pub words-length : (b : List ℕ) (n : ℕ) → length (words_to b n) ≡ n
unfolding words_to
words-length b zero = refl
words-length b (suc n) = rw (length-append, words-length b n) (omega arith)

pub word-get : (b : List ℕ) (n k : ℕ) → k < n → get_or (words_to b n) k 0 ≡ word_at b k
unfolding words_to
word-get b zero k h = absurd (omega arith)
word-get b (suc n) k h = go (ltb k n) refl (word-get b n k)
  where
    go : (t : Bool) → ltb k n ≡ t → (k < n → get_or (words_to b n) k 0 ≡ word_at b k) → get_or (words_to b n ++ (word_at b n ∷ [])) k 0 ≡ word_at b k
    go true e r = let l : k < n = ltb-true k n e in get_or-append (words_to b n) (word_at b n ∷ []) 0 k (let w : length (words_to b n) ≡ n = words-length b n in omega arith) ∙ r l
    go false e r =
        let g : n ≤ k = ltb-false k n e in
        let q : k ≡ n = omega arith in
        rw q (get_or_at (words_to b n) (word_at b n) [] 0 n (words-length b n))

-- the same of floats
pub floats-length : (b : List ℕ) → length (floats_of b) ≡ length b / 4
unfolding floats_of
floats-length b = length-map (words_of b) (of_bits binary32) ∙ words-length b (length b / 4)

pub float-get : (b : List ℕ) (k : ℕ) → k * 4 + 4 ≤ length b → at (floats_of b) k ≡ of_bits binary32 (word_at b k)
unfolding floats_of
float-get b k h =
    get_or-map (of_bits binary32) (words_of b) k 0 nan (rw words-length (omega arith)) ∙ ap (of_bits binary32) (word-get b (length b / 4) k (omega arith))

-- ---- the bytes of words

-- in the words' order, and four a word
pub bytes-append : (v w : List ℕ) → bytes_of (v ++ w) ≡ bytes_of v ++ bytes_of w
unfolding bytes_of
bytes-append [] w = refl
bytes-append (a ∷ v) w = rw (bytes-append v w)

pub bytes-length : (ws : List ℕ) → length (bytes_of ws) ≡ length ws * 4
unfolding bytes_of
bytes-length [] = refl
bytes-length (w ∷ ws) = let h = bytes-length ws in omega arith

-- ---- four bytes are a word

-- the word of four bytes, the lowest first
abbrev pub word_of : ℕ → ℕ → ℕ → ℕ → ℕ
word_of p q r s = p + 256 * q + 65536 * r + 16777216 * s

four-more : (k : ℕ) → suc k * 4 ≡ suc (suc (suc (suc (k * 4))))
four-more k = omega arith

word_next : (p q r s : ℕ) (b : List ℕ) (n : ℕ) → word_at (p ∷ q ∷ r ∷ s ∷ b) (suc n) ≡ word_at b n
unfolding word_at
word_next p q r s b n =
    let e : suc n * 4 + 1 ≡ suc (suc (suc (suc (n * 4 + 1)))) = omega arith in
    let f : suc n * 4 + 2 ≡ suc (suc (suc (suc (n * 4 + 2)))) = omega arith in
    let g : suc n * 4 + 3 ≡ suc (suc (suc (suc (n * 4 + 3)))) = omega arith in
    rw (e, f, g, four-more n)

four-to : (p q r s : ℕ) (b : List ℕ) (n : ℕ) → words_to (p ∷ q ∷ r ∷ s ∷ b) (suc n) ≡ word_of p q r s ∷ words_to b n
unfolding words_to word_at
four-to p q r s b zero = refl
four-to p q r s b (suc n) =
    ap (λ (l : List ℕ). l ++ (word_at (p ∷ q ∷ r ∷ s ∷ b) (suc n) ∷ [])) (four-to p q r s b n)
    ∙ ap (λ (w : ℕ). (word_of p q r s ∷ words_to b n) ++ (w ∷ [])) (word_next p q r s b n)

-- the first word, and the words behind it
pub words-four : (p q r s : ℕ) (b : List ℕ) → words_of (p ∷ q ∷ r ∷ s ∷ b) ≡ word_of p q r s ∷ words_of b
words-four p q r s b =
    let e : length (p ∷ q ∷ r ∷ s ∷ b) / 4 ≡ suc (length b / 4) = omega arith in
    ap (words_to (p ∷ q ∷ r ∷ s ∷ b)) e ∙ four-to p q r s b (length b / 4)

-- fewer than four bytes are no word
pub words-few : (b : List ℕ) → length b < 4 → words_of b ≡ []
unfolding words_to
words-few b h = let e : length b / 4 ≡ 0 = omega arith in ap (words_to b) e

-- ---- whole words in front

-- from fewer than four bytes nothing is taken
few-take : (b : List ℕ) (k : ℕ) → length b < 4 → words_of (take (suc k * 4) b) ≡ take (suc k) (words_of b)
few-take b k h = words-few (take (suc k * 4) b) (rw length-take (omega arith)) ∙ sym (ap (take (suc k)) (words-few b h))

-- the bytes of the first k words
pub words_take : (b : List ℕ) (k : ℕ) → words_of (take (k * 4) b) ≡ take k (words_of b)
unfolding words_to
words_take b zero = refl
words_take [] (suc k) = few-take [] k (omega arith)
words_take (p ∷ []) (suc k) = few-take (p ∷ []) k (omega arith)
words_take (p ∷ q ∷ []) (suc k) = few-take (p ∷ q ∷ []) k (omega arith)
words_take (p ∷ q ∷ r ∷ []) (suc k) = few-take (p ∷ q ∷ r ∷ []) k (omega arith)
words_take (p ∷ q ∷ r ∷ s ∷ b) (suc k) =
    ap (λ (n : ℕ). words_of (take n (p ∷ q ∷ r ∷ s ∷ b))) (four-more k) ∙ words-four p q r s (take (k * 4) b)
    ∙ ap (λ (l : List ℕ). word_of p q r s ∷ l) (words_take b k) ∙ sym (ap (take (suc k)) (words-four p q r s b))

-- ---- there and back

-- the byte of a number, and what is left of it
low_byte : (n : ℕ) → n % 256 + 256 * (n / 256) ≡ n
low_byte n = omega arith

four_low : (w a b c p q r s : ℕ) → p + 256 * a ≡ w → q + 256 * b ≡ a → r + 256 * c ≡ b → s ≡ c → word_of p q r s ≡ w
four_low w a b c p q r s e f g h = omega arith

high_byte : (w : ℕ) → w < 2 ^ 32 → w / 16777216 % 256 ≡ w / 16777216
high_byte w h = omega arith

word_back : (w : ℕ) → w < 2 ^ 32 → word_of (w % 256) (w / 256 % 256) (w / 65536 % 256) (w / 16777216 % 256) ≡ w
word_back w h =
    four_low
    w
    (w / 256)
    (w / 65536)
    (w / 16777216)
    _
    _
    _
    _
    (low_byte w)
    (subst (λ (n : ℕ). w / 256 % 256 + 256 * n ≡ w / 256) (div-div-eq-div-mul w 256 256) (low_byte (w / 256)))
    (subst (λ (n : ℕ). w / 65536 % 256 + 256 * n ≡ w / 65536) (div-div-eq-div-mul w 65536 256) (low_byte (w / 65536)))
    (high_byte w h)

-- words below 2^32, written as bytes, are read as they were
pub words_back : WordsBack
unfolding bytes_of words_to
words_back [] h = refl
words_back (w ∷ ws) h =
    rw (words-four, word_back w (h 0 (omega arith)), words_back ws (λ i l. h (suc i) (omega arith)))

-- and so is each of them by itself, whatever the others are and whatever follows
pub words-front : (ws rest : List ℕ) (i : ℕ) → i < length ws → get_or ws i 0 < 2 ^ 32 → get_or (words_of (bytes_of ws ++ rest)) i 0 ≡ get_or ws i 0
unfolding bytes_of
words-front [] rest i h l = absurd (omega arith)
words-front (w ∷ ws) rest zero h l = rw words-four (word_back w l)
words-front (w ∷ ws) rest (suc i) h l = rw words-four (words-front ws rest i (omega arith) l)

bytes-back-4 : (p q r s : ℕ) → p < 256 → q < 256 → r < 256 → s < 256 → bytes_of_word (word_of p q r s) ≡ p ∷ q ∷ r ∷ s ∷ []
bytes-back-4 p q r s h0 h1 h2 h3 =
    let w = word_of p q r s in
    let d1 : w / 256 ≡ q + 256 * r + 65536 * s = omega arith in
    let d2 : w / 65536 ≡ r + 256 * s = omega arith in
    let d3 : w / 16777216 ≡ s = omega arith in
    let e0 : w % 256 ≡ p = omega arith in
    let e1 : w / 256 % 256 ≡ q = rw d1 (omega arith) in
    let e2 : w / 65536 % 256 ≡ r = rw d2 (omega arith) in
    let e3 : w / 16777216 % 256 ≡ s = rw d3 (omega arith) in
    rw (e0, e1, e2, e3)

-- bytes below 256 of whole words, read as words, are the bytes of those words
pub bytes_back : BytesBack
unfolding bytes_of words_to
bytes_back [] h a = refl
bytes_back (p ∷ []) h a = absurd (omega arith)
bytes_back (p ∷ q ∷ []) h a = absurd (omega arith)
bytes_back (p ∷ q ∷ r ∷ []) h a = absurd (omega arith)
bytes_back (p ∷ q ∷ r ∷ s ∷ b) h a =
    let e : bytes_of (words_of b) ≡ b = bytes_back b (omega arith) (λ i l. a (suc (suc (suc (suc i)))) (omega arith)) in
    let f : bytes_of_word (word_of p q r s) ≡ p ∷ q ∷ r ∷ s ∷ [] = bytes-back-4 p q r s (a 0 (omega arith)) (a 1 (omega arith)) (a 2 (omega arith)) (a 3 (omega arith)) in
    ap bytes_of (words-four p q r s b) ∙ ap (λ (l : List ℕ). l ++ bytes_of (words_of b)) f ∙ ap (λ (l : List ℕ). p ∷ q ∷ r ∷ s ∷ l) e
