-- Laws of buffers that are filled with words, and of tests that read words one by one.
use mathlib.Core.Path.{◌≡◌, refl, sym, ap, ◌∙◌}
use mathlib.Core.Bool.{Bool, true, false, not, ◌&&◌}
use mathlib.Core.List.{List, [], ◌∷◌, ◌++◌, map, append_assoc, append-nil}
use Prim.Native.Nat.{ℕ, suc, ◌+◌, ◌*◌, ◌/◌, ◌^◌, ◌-◌, ◌≤◌, ◌<◌, zero}
use native.Mathlib.Numerals.{add-one}
use native.Mathlib.Omega.{arith}
use borrow.Author.Tests.{le-leb, ltb-true, leb-true}
use lib.Dec.{T, leb, ltb, lit<}
use lib.ListN.{length, length-map, get_or, take, drop, set}
use lib.Seq.{take_all, take-suc, drop-cons, drop-drop, length-take-le, set_at, drop-length, get_or-take, get_or-drop}
use lib.Ieee.{Float, binary32, of_bits, nan_bits}
use Rattle.numeric.specs.Arith.{at}
use Rattle.numeric.proofs.Patterns.{range_at, range-word}
use Rattle.numeric.specs.Numeric.{in_range, all_in_range}
use Rattle.numeric.proofs.Laws.{no_nan}
use Rattle.numeric.proofs.Lists.{fill-behind}
use Rattle.refusal.proofs.Bools.{both}
use Rattle.row_params.specs.Params.{all_up_to, rising, rising_from}
use Rattle.grid_word_bytes.specs.Bytes.{floats_of, bytes_of_word, bytes_of, with_word, word_at, words_to}
use Rattle.grid_word_bytes.proofs.BytesLaws.{floats-length, bytes-append, bytes-length, words-length, word-get}
use Rattle.std.proofs.Math.Bool.{and_assoc, and-true, and-false}
use native.Mathlib.Nat.{zero-add, add-zero}
use Rattle.std.proofs.lemmas.List.{get_or-map}
use Rattle.std.specs.List.{fold, zip}
use Rattle.std.specs.Simd.{first_chunks}

-- ---- a buffer that is filled from the front
pub fill-turn : {A : Type 0} (l d out : List A) (i : ℕ) (z v : A) → i < length l → i < length d → out ≡ take i l ++ drop i d → v ≡ get_or l i z
    → set out i v ≡ take (i + 1) l ++ drop (i + 1) d
fill-turn l d out i z v h g e w =
    let s : take (suc i) l ≡ take i l ++ (get_or l i z ∷ []) = take-suc l i z h in
    let c : drop i d ≡ get_or d i z ∷ drop (suc i) d = drop-cons d i z g in
    rw (e, w, add-one, s, c, append_assoc) (set_at (take i l) (get_or d i z) (drop (suc i) d) (get_or l i z) i (length-take-le i l (omega arith)))

pub fill_done : {A : Type 0} (l d out : List A) (i : ℕ) → i ≡ length d → out ≡ take i l ++ drop i d → out ≡ take (length d) l
fill_done l d out i h e = e ∙ rw (h, drop-length, append-nil)

-- ---- words that are written
-- one word more
pub word-behind : (ws d out next : List ℕ) (i : ℕ) → i < length ws → out ≡ bytes_of (take i ws) ++ drop (i * 4) d → next ≡ with_word out i (get_or ws i 0)
    → next ≡ bytes_of (take (i + 1) ws) ++ drop ((i + 1) * 4) d
unfolding with_word bytes_of
word-behind ws d out next i h e o =
    let w = get_or ws i 0 in
    let s : take (i + 1) ws ≡ take i ws ++ (w ∷ []) = rw add-one (take-suc ws i 0 h) in
    let l : length (bytes_of (take i ws)) ≡ i * 4 = bytes-length (take i ws) ∙ ap (λ (k : ℕ). k * 4) (length-take-le i ws (omega arith)) in
    let m : (i + 1) * 4 ≡ i * 4 + 4 = omega arith in
    rw (s, m, bytes-append, append-nil) (o ∙ fill-behind (bytes_of (take i ws)) (bytes_of_word w) d out (i * 4) 4 l e)

-- ---- readings as words
-- a float of a list that is in range has no pattern of a NaN
pub in-range-no-nan : (limit : ℕ) (l : List Float) (k w : ℕ) → limit < 0x7f80_0000 → all_in_range limit l ≡ true → k < length l → w < 2 ^ 32 → at l k ≡ of_bits binary32 w
    → T (not (nan_bits binary32 w))
in-range-no-nan limit l k w g h m b e =
    let r : in_range limit (of_bits binary32 w) ≡ true = rw (← e) (range_at limit l k h m) in
    let u = leb-true w limit (sym (range-word limit w b g) ∙ r) in
    no_nan w (omega arith)

pub up-to-snoc : (limit : ℕ) (ws : List ℕ) (w : ℕ) → all_up_to limit (ws ++ (w ∷ [])) ≡ (all_up_to limit ws && leb w limit)
unfolding all_up_to
up-to-snoc limit [] w = and-true _
up-to-snoc limit (v ∷ ws) w = rw (up-to-snoc limit ws w) (sym (and_assoc (leb v limit) (all_up_to limit ws) (leb w limit)))

pub range_snoc : (limit : ℕ) (ws : List ℕ) (w : ℕ) → w < 2 ^ 32 → limit < 0x7f80_0000
    → all_in_range limit (map (of_bits binary32) (ws ++ (w ∷ []))) ≡ (all_in_range limit (map (of_bits binary32) ws) && leb w limit)
unfolding all_in_range
range_snoc limit [] w h g = rw (range-word limit w h g) (and-true _)
range_snoc limit (v ∷ ws) w h g =
    rw (range_snoc limit ws w h g)
    (sym (and_assoc (in_range limit (of_bits binary32 v)) (all_in_range limit (map (of_bits binary32) ws)) (leb w limit)))

-- ---- whole lists, decoded into arrays
pub decode-room : {A : Type 0} (b : List ℕ) (zeros : List A) → length b / 4 ≤ length zeros → length (take (length b / 4) zeros) * 4 ≤ length b
decode-room b zeros h = rw (length-take-le (length b / 4) zeros h) (omega arith)

pub decode-from : {A : Type 0} (b : List ℕ) (zeros : List A) → length b / 4 ≤ length zeros → (0 + length (take (length b / 4) zeros)) * 4 ≤ length b
decode-from b zeros h = omega (arith, decode-room b zeros h)

pub decoded-floats : (b : List ℕ) (zeros last : List Float) → length b / 4 ≤ length zeros
    → last ≡ take (length (take (length b / 4) zeros)) (drop 0 (floats_of b)) → last ≡ floats_of b
decoded-floats b zeros last h e =
    e ∙ rw (length-take-le (length b / 4) zeros h) (take_all (length b / 4) (floats_of b) (let l : length (floats_of b) ≡ length b / 4 = floats-length b in omega arith))

-- ---- an axis that rises: its last word is the highest
rising-last : (limit s : ℕ) (ss : List ℕ) → rising_from s ss ≡ true
    → (s ≤ get_or (s ∷ ss) (length ss) 0) × (all_up_to limit (s ∷ ss) ≡ leb (get_or (s ∷ ss) (length ss) 0) limit)
unfolding rising_from all_up_to
rising-last limit s [] h = (omega arith, and-true _)
rising-last limit s (t ∷ ts) h =
    let b = both (ltb s t) h in
    let r = rising-last limit t ts b.1 in
    let below = ltb-true s t b.0 in
    (omega (arith, r.0), ap (λ (x : Bool). leb s limit && x) r.1 ∙ go (leb (get_or (t ∷ ts) (length ts) 0) limit) refl (omega (arith, r.0)))
  where
    go : (x : Bool) → leb (get_or (t ∷ ts) (length ts) 0) limit ≡ x → s ≤ get_or (t ∷ ts) (length ts) 0 → (leb s limit && x) ≡ x
    go true e l = rw (le-leb s limit (let k = leb-true _ limit e in omega arith))
    go false e l = and-false (leb s limit)

pub rising-up-to : (limit : ℕ) (l : List ℕ) (n : ℕ) → length l ≡ n → 0 < n → rising l ≡ true → all_up_to limit l ≡ leb (get_or l (n - 1) 0) limit
unfolding rising
rising-up-to limit [] n e h r = absurd (omega arith)
rising-up-to limit (s ∷ ss) n e h r =
    let k : n - 1 ≡ length ss = omega arith in rw k (rising-last limit s ss r).1

-- ---- words as chunks of four bytes
chunk-word : (b : List ℕ) (j : ℕ) → word_at (take 4 (drop (j * 4) b)) 0 ≡ word_at b j
unfolding word_at
chunk-word b j = rw (at_byte 0 (lit< tt), at_byte 1 (lit< tt), at_byte 2 (lit< tt), at_byte 3 (lit< tt), add-zero)
  where
    at_byte : (k : ℕ) → k < 4 → get_or (take 4 (drop (j * 4) b)) k 0 ≡ get_or b (j * 4 + k) 0
    at_byte k h = get_or-take 4 (drop (j * 4) b) k 0 h ∙ get_or-drop (j * 4) b k 0

words-suc : (b : List ℕ) (j : ℕ) → words_to b (suc j) ≡ words_to b j ++ (word_at b j ∷ [])
unfolding words_to
words-suc b j = refl

chunks-from : (n j : ℕ) (b : List ℕ) → words_to b j ++ map (λ w. word_at w 0) (first_chunks 4 n (drop (j * 4) b)) ≡ words_to b (n + j)
chunks-from zero j b = rw zero-add (append-nil (words_to b j))
chunks-from (suc n) j b =
    let m : suc j * 4 ≡ j * 4 + 4 = omega arith in
    let e : suc n + j ≡ n + suc j = omega arith in
    rw (e, chunk-word b j)
    (sym (append_assoc (words_to b j) (word_at b j ∷ []) (map (λ w. word_at w 0) (first_chunks 4 n (drop 4 (drop (j * 4) b)))))
    ∙ rw (drop-drop 4 (j * 4) b, ← m, ← words-suc b j) (chunks-from n (suc j) b))

pub chunk-words : (n : ℕ) (b : List ℕ) → map (λ w. word_at w 0) (first_chunks 4 n b) ≡ words_to b n
unfolding words_to
chunk-words n b = rw add-zero at (chunks-from n 0 b)

pub chunk-at : (b : List ℕ) (k : ℕ) → k < length b / 4 → word_at (get_or (first_chunks 4 (length b / 4) b) k []) 0 ≡ word_at b k
chunk-at b k h =
    let ws = first_chunks 4 (length b / 4) b in
    let e = chunk-words (length b / 4) b in
    let l : length ws ≡ length b / 4 = sym (length-map ws (λ w. word_at w 0)) ∙ ap length e ∙ words-length b (length b / 4) in
    sym (get_or-map (λ w. word_at w 0) ws k [] 0 (omega arith)) ∙ ap (λ v. get_or v k 0) e ∙ word-get b (length b / 4) k h

pub up-to-fold : (limit : ℕ) (f : List ℕ → ℕ) (ws : List (List ℕ)) (all : Bool)
    → fold (λ (all : Bool) (w : List ℕ). all && leb (f w) limit) all ws ≡ (all && all_up_to limit (map f ws))
unfolding all_up_to
up-to-fold limit f [] all = sym (and-true all)
up-to-fold limit f (w ∷ ws) all = up-to-fold limit f ws (all && leb (f w) limit) ∙ and_assoc all (leb (f w) limit) (all_up_to limit (map f ws))

rising-from : (f : List ℕ → ℕ) (w : List ℕ) (ws : List (List ℕ)) (all : Bool)
    → fold (λ (all : Bool) (p : List ℕ × List ℕ). all && ltb (f p.0) (f p.1)) all (zip (w ∷ ws) ws) ≡ (all && rising_from (f w) (map f ws))
unfolding rising_from
rising-from f w [] all = sym (and-true all)
rising-from f w (v ∷ ws) all = rising-from f v ws (all && ltb (f w) (f v)) ∙ and_assoc all (ltb (f w) (f v)) (rising_from (f v) (map f ws))

pub rises-none : (f : List ℕ → ℕ) (ws : List (List ℕ)) → length ws ≡ 0 → rising (map f ws) ≡ true
unfolding rising
rises-none f [] h = refl
rises-none f (w ∷ ws) h = absurd (omega arith)

pub rising-fold : (f : List ℕ → ℕ) (ws rest : List (List ℕ)) (w : List ℕ) → ws ≡ w ∷ rest
    → fold (λ (all : Bool) (p : List ℕ × List ℕ). all && ltb (f p.0) (f p.1)) true (zip ws rest) ≡ rising (map f ws)
unfolding rising
rising-fold f ws rest w e = rw e (rising-from f w rest true)

-- the words of bytes are words, and below the patterns of infinities and NaNs they are in range where their floats are
pub word-fits : (b : List ℕ) (i : ℕ) → ((k : ℕ) → get_or b k 0 < 256) → word_at b i < 2 ^ 32
unfolding word_at
word-fits b i h = omega (arith, h (i * 4), h (i * 4 + 1), h (i * 4 + 2), h (i * 4 + 3))

pub range-words : (limit : ℕ) (b : List ℕ) (n : ℕ) → ((k : ℕ) → get_or b k 0 < 256) → limit < 0x7f80_0000
    → all_up_to limit (words_to b n) ≡ all_in_range limit (map (of_bits binary32) (words_to b n))
unfolding words_to all_up_to all_in_range
range-words limit b zero h g = refl
range-words limit b (suc n) h g =
    up-to-snoc limit (words_to b n) (word_at b n) ∙ ap (λ (t : Bool). t && leb (word_at b n) limit) (range-words limit b n h g)
    ∙ sym (range_snoc limit (words_to b n) (word_at b n) (word-fits b n h) g)
