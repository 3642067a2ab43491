-- Laws of lists that are put at a place of a buffer.
use mathlib.Core.Path.{◌≡◌, sym, ◌∙◌, ap, subst}
use mathlib.Core.List.{List, [], ◌∷◌, ◌++◌, append_assoc}
use Prim.Native.Nat.{ℕ, ◌≤◌, ◌<◌, ◌+◌, ◌-◌}
use native.Mathlib.Nat.{zero-add}
use native.Mathlib.Numerals.{add-one}
use native.Mathlib.Omega.{arith}
use lib.ListN.{length, take, drop, set, length-append, length-take, length-drop}
use lib.Seq.{set_split, length-take-le, take_at, drop-append-add, drop-drop}
use borrow.Rule.Slice.PartMut.{put_mid}
use Rattle.row_record.proofs.Laws.{put-part as written}
use Rattle.table_text.specs.Print.{put_at}

pub put-length : (l : List ℕ) (a : ℕ) (x : List ℕ) → a + length x ≤ length l → length (put_at l a x) ≡ length l
unfolding put_at
put-length l a x h = simp (length-append, length-take, length-drop) (omega arith)

-- a list put right behind another
pub put-more : (l : List ℕ) (a b : ℕ) (x y : List ℕ) → b ≡ a + length x → b + length y ≤ length l → put_at (put_at l a x) b y ≡ put_at l a (x ++ y)
unfolding put_at
put-more l a b x y e h =
    let p = take a l ++ x in
    let lp : length p ≡ b = length-append (take a l) x ∙ ap (λ (z : ℕ). z + length x) (length-take-le a l (omega arith)) ∙ sym e in
    let m : take a l ++ (x ++ drop (a + length x) l) ≡ p ++ drop b l = rw e (sym (append_assoc (take a l) x (drop (a + length x) l))) in
    let d : drop (b + length y) (p ++ drop b l) ≡ drop (b + length y) l =
    subst (λ (z : ℕ). drop (z + length y) (p ++ drop b l) ≡ drop (length y) (drop b l)) lp (drop-append-add p (drop b l) (length y)) ∙ drop-drop (length y) b l in
    let f : a + length (x ++ y) ≡ b + length y = simp length-append (omega arith) in
    rw (m, take_at p (drop b l) b lp, d, f) (simp append_assoc)

pub put_byte : (l : List ℕ) (a b : ℕ) (x : List ℕ) (v : ℕ) → b ≡ a + length x → b < length l → set (put_at l a x) b v ≡ put_at l a (x ++ (v ∷ []))
unfolding put_at
put_byte l a b x v e h =
    let k : b < length (put_at l a x) = rw (put-length l a x (omega arith)) h in
    set_split (put_at l a x) b v k ∙ rw (← add-one b) (put-more l a b x (v ∷ []) e (omega arith))

pub put_one : (l : List ℕ) (a v : ℕ) → a < length l → set l a v ≡ put_at l a (v ∷ [])
unfolding put_at
put_one l a v h = set_split l a v h ∙ rw (← add-one a)

pub put_front : (l x : List ℕ) → put_at l 0 x ≡ x ++ drop (length x) l
unfolding put_at
put_front l x = rw (zero-add (length x))

-- what is written through the part `&mut l[a..]`
pub put-part : (l x last : List ℕ) (a k : ℕ) → k ≡ length x → last ≡ x ++ drop k (take (length l - a) (drop a l)) → put_mid a (length l - a) l last ≡ put_at l a x
unfolding put_at
put-part l x last a k e hl = written l x last a k hl ∙ rw e

-- x has been put at a of l, which is now out, and ends at b
abbrev pub Put : List ℕ → ℕ → List ℕ → List ℕ → ℕ → Type 0
Put l a x out b = (b ≡ a + length x) × (out ≡ put_at l a x)

pub put_next : (l out out' x y : List ℕ) (a b b' : ℕ) → Put l a x out b → Put out b y out' b' → b + length y ≤ length l → Put l a (x ++ y) out' b'
put_next l out out' x y a b b' p q h =
    (q.0 ∙ simp length-append (omega (arith, p.0)), q.1 ∙ ap (λ (z : List ℕ). put_at z b y) p.1 ∙ put-more l a b x y p.0 h)

pub put-next-byte : (l out x : List ℕ) (a b v : ℕ) → Put l a x out b → b < length l → Put l a (x ++ (v ∷ [])) (set out b v) (b + 1)
put-next-byte l out x a b v p h =
    (simp length-append (omega (arith, p.0)), ap (λ (z : List ℕ). set z b v) p.1 ∙ put_byte l a b x v p.0 h)
