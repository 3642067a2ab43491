-- Lists that are written from the front: what has been written, and behind it what stood there.
use mathlib.Core.Path.{◌≡◌, sym, ◌∙◌, ap}
use mathlib.Core.List.{List, [], ◌∷◌, ◌++◌, append_assoc}
use Prim.Native.Nat.{ℕ, suc, ◌<◌, ◌+◌}
use native.Mathlib.Numerals.{add-one}
use lib.ListN.{length, get_or, take, drop, set}
use lib.Seq.{drop-cons, set_at, take_at, drop-append-add, drop-drop}

-- one more element
pub push : {A : Type 0} (P d : List A) (n : ℕ) (v : A) → length P ≡ n → n < length d → set (P ++ drop n d) n v ≡ (P ++ (v ∷ [])) ++ drop (n + 1) d
push P d n v e h = rw (add-one, drop-cons d n v, append_assoc) (set_at P (get_or d n v) (drop (suc n) d) v n e)

-- r more elements R
pub fill-behind : {A : Type 0} (P R d out : List A) (a r : ℕ) → length P ≡ a → out ≡ P ++ drop a d
    → take a out ++ (R ++ drop (a + r) out) ≡ (P ++ R) ++ drop (a + r) d
fill-behind P R d out a r h e =
    let front : take a out ≡ P = ap (take a) e ∙ take_at P (drop a d) a h in
    let back : drop (a + r) out ≡ drop (a + r) d = ap (drop (a + r)) e ∙ rw (← h, drop-append-add, drop-drop) in
    rw (front, back) (sym (append_assoc P R (drop (a + r) d)))

-- the front
pub filled-front : {A : Type 0} (P d l : List A) (n : ℕ) → n ≡ length P → l ≡ P ++ drop n d → take n l ≡ P
filled-front P d l n h e = ap (take n) e ∙ take_at P (drop n d) n (sym h)
