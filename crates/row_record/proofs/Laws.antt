-- Laws of records in a buffer.
use mathlib.Core.Path.{◌≡◌, refl, ◌∙◌, ap, sym}
use mathlib.Core.Bool.{◌&&◌}
use mathlib.Core.List.{List, [], ◌++◌, append-nil, append_assoc}
use Prim.Native.Nat.{ℕ, zero, suc, ◌≤◌, ◌<◌, ◌+◌, ◌-◌, ◌*◌}
use native.Mathlib.Nat.{zero-add}
use native.Mathlib.Omega.{arith}
use lib.ListN.{length, drop, take, get_or, length-drop, length-append, get_or-append, drop_of_length-le}
use lib.Seq.{get_or-take, get_or-drop, length-take-le, take_all, drop-drop, take-append_seam, drop-append_seam}
use borrow.Rule.Slice.PartMut.{put_mid}
use Rattle.std.specs.List.{list_all}
use Rattle.std.specs.Simd.{first_chunks}
use Rattle.row_record.specs.Record.{size, peak_from, peak_at, sound, all_sound}
use Rattle.row_record.proofs.RoundTrip.{own-words}
use Rattle.std.proofs.Math.Bool.{and_assoc, and-true}

-- r words R, written through the part `&mut out[a..]`
pub put-part : {A : Type 0} (out R last : List A) (a r : ℕ) → last ≡ R ++ drop r (take (length out - a) (drop a out))
    → put_mid a (length out - a) out last ≡ take a out ++ (R ++ drop (a + r) out)
put-part out R last a r hl =
    let all : take (length out - a) (drop a out) ≡ drop a out = take_all (length out - a) (drop a out) (simp length-drop (omega arith)) in
    let none : drop (length out - a) (drop a out) ≡ [] = drop_of_length-le (drop a out) {i = length out - a} (simp length-drop (omega arith)) in
    let l : last ≡ R ++ drop (a + r) out = hl ∙ ap (λ x. R ++ drop r x) all ∙ ap (λ x. R ++ x) (drop-drop r a out) in
    simp (none, l, append-nil)

-- r words R put in the place of as many
pub put-record : {A : Type 0} (out R last : List A) (a r : ℕ) → last ≡ R → put_mid a (a + r - a) out last ≡ take a out ++ (R ++ drop (a + r) out)
put-record out R last a r e = let n : a + r - a ≡ r = omega arith in rw (e, n, drop-drop r a out)

-- the same of two parts, one right behind the other
pub put-two : {A : Type 0} (out R S last final : List A) (a r s : ℕ) → a + (r + s) ≤ length out → length R ≡ r → last ≡ R → final ≡ S
    → put_mid (a + r) (a + (r + s) - (a + r)) (put_mid a (a + r - a) out last) final ≡ take a out ++ ((R ++ S) ++ drop (a + (r + s)) out)
put-two out R S last final a r s h l e f =
    let first = put-record out R last a r e in
    let front : length (take a out) ≡ a = length-take-le a out (omega arith) in
    let n : a + (r + s) - (a + r) ≡ s = omega arith in
    let m : length (take a out ++ R) ≡ a + r = simp (length-append, front, l) in
    let D = drop (a + r) out in
    let F = take a out ++ R in
    let again : take a out ++ (R ++ D) ≡ F ++ D = sym (append_assoc (take a out) R D) in
    let t : take (a + r) (F ++ D) ≡ F = rw m at (take-append_seam F D) in
    let d : drop (a + r) (F ++ D) ≡ D = rw m at (drop-append_seam F D) in
    let k : a + r + s ≡ a + (r + s) = omega arith in
    rw (n, f, first, again, t, d, drop-drop s (a + r) out, k) (simp append_assoc)

-- the first records of a list are those of its front
pub front-peak : (list : List ℕ) (n k : ℕ) → k < n → peak_at (take (n * size) list) k ≡ peak_at list k
front-peak list n k h = own-words (take (n * size) list) list (k * size) (k * size) (λ j b. get_or-take (n * size) list (k * size + j) 0 (omega (arith, h, b)))

pub front-sound : (list : List ℕ) (n k : ℕ) → k ≤ n → all_sound (take (n * size) list) k ≡ all_sound list k
unfolding all_sound
front-sound list n zero h = refl
front-sound list n (suc k) h = rw (front-sound list n k (omega arith), front-peak list n k (omega arith))

-- a record read from a chunk of a list, and what the list has behind it
pub chunk-peak : (list w rest : List ℕ) (k : ℕ) → length w ≡ size → drop (k * size) list ≡ w ++ rest → peak_from w 0 ≡ peak_at list k
chunk-peak list w rest k n e = own-words w list 0 (k * size) (λ j b.
    rw zero-add (sym (get_or-append w rest 0 j (omega arith)) ∙ ap (λ x. get_or x j 0) (sym e) ∙ get_or-drop (k * size) list j 0))

pub chunk-rest : (list w rest : List ℕ) (k : ℕ) → length w ≡ size → drop (k * size) list ≡ w ++ rest → rest ≡ drop ((k + 1) * size) list
chunk-rest list w rest k n e =
    let m : (k + 1) * size ≡ k * size + size = omega arith in
    sym (drop-append_seam w rest) ∙ ap (λ i. drop i (w ++ rest)) n ∙ ap (λ x. drop size x) (sym e) ∙ drop-drop size (k * size) list ∙ ap (λ i. drop i list) (sym m)

pub chunk-room : (list w rest : List ℕ) (k : ℕ) → k * size ≤ length list → length w ≡ size → drop (k * size) list ≡ w ++ rest → (k + 1) * size ≤ length list
chunk-room list w rest k h n e =
    let l : length list - k * size ≡ length w + length rest = sym (length-drop (k * size) list) ∙ ap length e ∙ length-append w rest in omega (arith, l, n)

-- the records of a list, as chunks of it
pub chunk-is : (n k : ℕ) (l : List ℕ) → k < n → get_or (first_chunks size n l) k [] ≡ take size (drop (k * size) l)
chunk-is zero k l h = absurd (omega arith)
chunk-is (suc n) zero l h = refl
chunk-is (suc n) (suc k) l h =
    let m : suc k * size ≡ size + k * size = omega arith in
    chunk-is n k (drop size l) (omega arith) ∙ rw m (ap (take size) (drop-drop (k * size) size l))

pub own-chunk : (l : List ℕ) (k : ℕ) → peak_from (take size (drop (k * size) l)) 0 ≡ peak_at l k
own-chunk l k = own-words (take size (drop (k * size) l)) l 0 (k * size) (λ j b. rw zero-add (get_or-take size (drop (k * size) l) j 0 b ∙ get_or-drop (k * size) l j 0))

-- what is found of the first j records, and then of n more
pub all-chunks : (l : List ℕ) (n j : ℕ) → (all_sound l j && list_all (λ w. sound (peak_from w 0)) (first_chunks size n (drop (j * size) l))) ≡ all_sound l (n + j)
unfolding all_sound
all-chunks l zero j = rw zero-add (and-true (all_sound l j))
all-chunks l (suc n) j =
    let m : suc j * size ≡ j * size + size = omega arith in
    let e : suc n + j ≡ n + suc j = omega arith in
    rw e
    (sym (and_assoc (all_sound l j) (sound (peak_from (take size (drop (j * size) l)) 0)) (list_all (λ w. sound (peak_from w 0)) (first_chunks size n (drop size (drop (j * size) l)))))
    ∙ rw (own-chunk l j, drop-drop size (j * size) l, ← m) (all-chunks l n (suc j)))
