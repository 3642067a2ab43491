-- Laws of lists that are the same, and of parts.
use mathlib.Core.Path.{◌≡◌, refl, sym, ap, ◌∙◌}
use mathlib.Core.Bool.{Bool, true, false, cond, ◌&&◌}
use mathlib.Core.List.{List, [], ◌∷◌, ◌++◌}
use Prim.Native.Nat.{ℕ, zero, suc, ◌+◌, ◌-◌, ◌*◌, ◌/◌, ◌%◌, ◌≤◌, ◌<◌, min}
use native.Mathlib.Omega.{arith}
use borrow.Author.Tests.{ne_eqb, eqb-true, eqb-false}
use lib.Dec.{eqb}
use Rattle.std.specs.Cmp.Lexicographic.{pointwise}
use lib.ListN.{length, take, drop, drop_of_length-le, length-drop, length-map}
use lib.Seq.{take_all, drop-drop, take-append_seam, length-take-le}
use Rattle.row_record.specs.Record.{size}
use Rattle.row_record.specs.declared.ImPeak1D.{ImPeak1D}
use Rattle.stitch_peaks.specs.PeakList.{list_words}
use Rattle.stitch_peaks.proofs.PeakListLaws.{peaks-length, words-length}
use Rattle.sort_digits.specs.Sorted.{up_to}
use Rattle.sort_digits.proofs.UpTo.{upto-length}
use Rattle.stitch_passes.specs.Stitching.{stitched, owner_of, owners_of}
use Rattle.stitch_passes.proofs.PassLaws.{stitched-count}
use Rattle.stitch.specs.StitchNumber.{count_in, peaks_in}
use Rattle.stitch.specs.Answer.{Lent, lent, rooms_of, number_for, Written}
use Rattle.stitch.proofs.StitchNumberLaws.{number-under}
use Rattle.stitch.proofs.Laws.{accepted}
use Rattle.c_grid_stitch.specs.Stitching.{Answered}
use Rattle.test_replay_stitching.specs.Replay.{word, room, rooms_in, list_in, params_in, told_in, answer_to, same, agrees_in}
use Rattle.test_replay_stitching.specs.Steps.{owners_by, has_in}
use Rattle.std.proofs.Math.Bool.{and_assoc}

-- ---- lists that are the same

pub compared : (a b : List ℕ) → pointwise eqb a b ≡ same a b
unfolding same
compared [] [] = refl
compared [] (y ∷ ys) = refl
compared (x ∷ xs) [] = refl
compared (x ∷ xs) (y ∷ ys) = ap (λ (z : Bool). eqb x y && z) (compared xs ys)

-- a list is the same as two in a row where its two parts are
same_parts : (l a b : List ℕ) → same l (a ++ b) ≡ (same (take (length a) l) a && same (drop (length a) l) b)
unfolding same
same_parts l [] b = refl
same_parts [] (y ∷ ys) b = refl
same_parts (x ∷ xs) (y ∷ ys) b = rw (same_parts xs ys b) (sym (and_assoc (eqb x y) (same (take (length ys) xs) ys) (same (drop (length ys) xs) b)))

-- ---- parts

pub rest_of : (l : List ℕ) (from n : ℕ) → length l - from ≤ n → take n (drop from l) ≡ drop from l
rest_of l from n h = take_all n (drop from l) (simp length-drop h)

pub nothing-of : (l : List ℕ) (from n : ℕ) → length l ≤ from → take n (drop from l) ≡ []
nothing-of l from n h = rw (drop_of_length-le l h) (none n)
  where
    none : (n : ℕ) → take {A = ℕ} n [] ≡ []
    none zero = refl
    none (suc n) = refl

front_of : (xs ys : List ℕ) (n : ℕ) → n ≡ length xs → take n (xs ++ ys) ≡ xs
front_of xs ys n e = rw e (take-append_seam xs ys)

-- ---- the answer

-- two words, and two lists behind them
in_parts : (rest words owners : List ℕ) (a b : ℕ)
    → (same (take 2 rest) (a ∷ b ∷ []) && same (take (length words) (drop 2 rest)) words && same (drop (2 + length words) rest) owners)
    ≡ same rest ((a ∷ b ∷ []) ++ (words ++ owners))
in_parts rest words owners a b =
    rw (same_parts rest (a ∷ b ∷ []) (words ++ owners), same_parts (drop 2 rest) words owners, drop-drop (length words) 2 rest)
    (and_assoc (same (take 2 rest) (a ∷ b ∷ [])) (same (take (length words) (drop 2 rest)) words) (same (drop (2 + length words) rest) owners))

-- the words that are lent
lent-words : (l : List ℕ) (n k : ℕ) → length l ≡ room → n ≡ min k room → length (take n l) ≡ min k room
lent-words l n k h e = length-take-le n l (omega arith) ∙ e

pub rooms-are : (line a b c d e f : List ℕ) (i j k l m n : ℕ) → length a ≡ room → length b ≡ room → length c ≡ room → length d ≡ room → length e ≡ room → length f ≡ room
    → i ≡ min (word line 1) room → j ≡ min (word line 2) room → k ≡ min (word line 3) room → l ≡ min (word line 4) room → m ≡ min (word line 5) room
    → n ≡ min (word line 6) room → rooms_of (lent (take i a) (take j b) (take k c) (take l d) (take m e) (take n f)) ≡ rooms_in line
rooms-are line a b c d e f i j k l m n ha hb hc hd he hf hi hj hk hl hm hn =
    rw (lent-words a i (word line 1) ha hi, lent-words b j (word line 2) hb hj, lent-words c k (word line 3) hc hk, lent-words d l (word line 4) hd hl, lent-words e m (word line 5) he hm, lent-words f n (word line 6) hf hn)

-- ---- a line

module _ (line : List ℕ) (was is : Lent) (r : ℕ) where
  abbrev number : ℕ
  number = number_for (told_in line) (list_in line) (params_in line) was

  abbrev found : List ImPeak1D
  found = stitched (params_in line) (peaks_in (list_in line))

  abbrev rest : List ℕ
  rest = drop (15 + word line 0) line

  -- where no number applies
  taken : number ≡ 0 → Written (params_in line) (peaks_in (list_in line)) was is → r ≡ length found * 64
      → has_in rest r is.out is.owners (owners_by r (length (list_in line))) ≡ agrees_in line (rooms_of was)
  unfolding has_in agrees_in answer_to
  taken e w f =
      let n : length (peaks_in (list_in line)) ≡ count_in (list_in line) = peaks-length (list_in line) (count_in (list_in line)) in
      let few : length found ≤ 65536 = omega (arith, n, stitched-count (params_in line) (peaks_in (list_in line)), (accepted (told_in line) (list_in line) (params_in line) (rooms_of was) e).few) in
      let zero_left : r % 64 ≡ 0 = omega arith in
      let count : r / 64 ≡ length found = omega arith in
      let small : length found % 4294967296 ≡ length found = omega arith in
      let words : take (length found * size) is.out ≡ list_words found = rw (w.records, ← words-length found) (take-append_seam (list_words found) _) in
      let column = owners_of (params_in line) (peaks_in (list_in line)) in
      let wide : length column ≡ count_in (list_in line) = length-map (up_to (length (peaks_in (list_in line)))) (owner_of (params_in line) (peaks_in (list_in line))) ∙ upto-length (length (peaks_in (list_in line))) ∙ n in
      let owners : take (count_in (list_in line)) is.owners ≡ column = ap (take (count_in (list_in line))) w.column ∙ front_of column (drop (length (peaks_in (list_in line))) was.owners) (count_in (list_in line)) (sym wide) in
      rw (zero_left, count, small, e, words, owners)
      (rw (words-length found) at (in_parts rest (list_words found) (owners_of (params_in line) (peaks_in (list_in line))) 0 (length found)))

  -- where one applies
  refused : (number ≡ 0 → ⊥) → r ≡ number → has_in rest r is.out is.owners (owners_by r (length (list_in line))) ≡ agrees_in line (rooms_of was)
  unfolding has_in agrees_in answer_to
  refused h f =
      let low : number < 64 = number-under (told_in line) (list_in line) (params_in line) (rooms_of was) in
      let itself : r % 64 ≡ number = omega arith in
      let none : r / 64 ≡ 0 = omega arith in
      rw (itself, none, ne_eqb number 0 h) (in_parts rest [] [] number 0)

  pub judged-is : Answered (told_in line) (list_in line) (params_in line) was is r
      → has_in rest r is.out is.owners (owners_by r (length (list_in line))) ≡ agrees_in line (rooms_of was)
  judged-is a = go (eqb number 0) refl a.answer
    where
      go : (b : Bool) → eqb number 0 ≡ b → r ≡ cond b (length found * 64) number
          → has_in rest r is.out is.owners (owners_by r (length (list_in line))) ≡ agrees_in line (rooms_of was)
      go true t f = let e = eqb-true number 0 t in taken e (a.accepted e) f
      go false t f = refused (eqb-false number 0 t) f
