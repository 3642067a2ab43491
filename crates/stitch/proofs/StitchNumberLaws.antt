-- What the number of a list to stitch says.
use mathlib.Core.Path.{◌≡◌, refl, sym}
use mathlib.Core.Bool.{Bool, true, false, cond, ◌&&◌}
use mathlib.Core.List.{List, [], ◌∷◌}
use Prim.Native.Nat.{ℕ, ◌<◌, ◌≤◌}
use native.Mathlib.Omega.{arith}
use borrow.Author.Tests.{ltb-true, ltb-false}
use lib.Dec.{ltb}
use Rattle.refusal.specs.Refusal.{Check, first_of, ascending_from}
use Rattle.refusal.proofs.Bools.{both}
use Rattle.refusal.proofs.RefusalLaws.{lowest_by, none-by, applies_for}
use Rattle.limits.specs.Limits.{max_list}
use Rattle.stitch_distinct.specs.Distinct.{distinct_ids}
use Rattle.stitch_matching.specs.declared.StitchParams.{StitchParams}
use Rattle.stitch.specs.declared.numbers.Rooms.{Rooms}
use Rattle.stitch.specs.StitchNumber.{count_in, peaks_in, stitch_checks, stitch_number, but, other_number}
use Rattle.stitch.specs.StitchNumberLaws.{StitchLowest}

module _ (told : Bool) (list : List ℕ) (params : StitchParams) (room : Rooms) where
  pub number_is : stitch_number told list params room ≡ first_of (stitch_checks told list params room)
  unfolding stitch_number
  number_is = refl

  pub ascending : ascending_from 0 (stitch_checks told list params room) ≡ true
  unfolding ascending_from
  ascending = refl

  -- where it is 0, the check with the number n does not apply
  pub none-for : (n : ℕ) → stitch_number told list params room ≡ 0 → applies_for n (stitch_checks told list params room) ≡ false
  none-for n e = none-by n (stitch_checks told list params room) number_is ascending e

-- ---- the lowest number but 8, and what it says of the number

-- the checks before number 8, and those after it
abbrev early : Bool → Bool → Bool → ℕ → ℕ
early a b c n = cond a 1 (cond b 2 (cond c 4 n))

abbrev late : Bool → Bool → Bool → ℕ
late a b c = cond a 9 (cond b 20 (cond c 21 0))

late-above : (a b c : Bool) → 0 < late a b c → 8 ≤ late a b c
late-above true b c h = omega arith
late-above false true c h = omega arith
late-above false false true h = omega arith
late-above false false false h = absurd (omega arith)

early-lower : (a b c eight : Bool) (n : ℕ) → (0 < n → 8 ≤ n) → 0 < early a b c n → early a b c n < 8 → early a b c (cond eight 8 n) ≡ early a b c n
early-lower true b c eight n h k l = refl
early-lower false true c eight n h k l = refl
early-lower false false true eight n h k l = refl
early-lower false false false eight n h k l = absurd (omega (arith, h k))

early-past : (a b c : Bool) (n : ℕ) → (0 < early a b c n → 8 ≤ early a b c n) → (a ≡ false) × (b ≡ false) × (c ≡ false)
early-past true b c n h = absurd (omega (arith, h (omega arith)))
early-past false true c n h = absurd (omega (arith, h (omega arith)))
early-past false false true n h = absurd (omega (arith, h (omega arith)))
early-past false false false n h = (refl, refl, refl)

early-eight : (a b c : Bool) (n : ℕ) → (0 < early a b c n → 8 ≤ early a b c n) → 8 ≡ early a b c 8
early-eight a b c n h = let e = early-past a b c n h in rw (e.0, e.1, e.2)

module _ (told : Bool) (list : List ℕ) (params : StitchParams) (room : Rooms) where
  pub other-is : other_number told list params room ≡ first_of (but 8 (stitch_checks told list params room))
  unfolding other_number
  other-is = refl

  -- where it is 0, no check but that of number 8 applies
  pub no_other : (n : ℕ) → other_number told list params room ≡ 0 → applies_for n (but 8 (stitch_checks told list params room)) ≡ false
  unfolding ascending_from
  no_other n e = none-by n (but 8 (stitch_checks told list params room)) other-is refl e

  -- whether the check with a number applies
  abbrev at : ℕ → Bool
  at n = applies_for n (stitch_checks told list params room)

  -- where identities are distinct it is the number
  pub where-distinct : distinct_ids (peaks_in list) ≡ true → other_number told list params room ≡ stitch_number told list params room
  unfolding other_number stitch_number first_of
  where-distinct d = rw d

  -- so it is where it is below 8
  pub where-lower : 0 < other_number told list params room → other_number told list params room < 8
      → other_number told list params room ≡ stitch_number told list params room
  unfolding other_number stitch_number first_of
  where-lower h k = sym (early-lower (at 1) (at 2) (at 4) (at 8) (late (at 9) (at 20) (at 21)) (late-above (at 9) (at 20) (at 21)) h k)

  -- elsewhere none of the checks before number 8 applies
  pub not-many : (0 < other_number told list params room → 8 ≤ other_number told list params room) → count_in list ≤ max_list
  unfolding other_number first_of
  not-many h = ltb-false max_list (count_in list) (early-past (at 1) (at 2) (at 4) (late (at 9) (at 20) (at 21)) h).1

  pub where-repeated : distinct_ids (peaks_in list) ≡ false → (0 < other_number told list params room → 8 ≤ other_number told list params room)
      → 8 ≡ stitch_number told list params room
  unfolding other_number stitch_number first_of
  where-repeated d h = rw d (early-eight (at 1) (at 2) (at 4) (late (at 9) (at 20) (at 21)) h)

-- it is the lowest that applies
pub number-lowest : StitchLowest
number-lowest told list params room h = lowest_by (stitch_checks told list params room) (number_is told list params room) (ascending told list params room) h

-- every number of a list of checks is below 64
all_under : List Check → Bool
all_under [] = true
all_under (c ∷ cs) = ltb c.number 64 && all_under cs

first_under : (cs : List Check) → all_under cs ≡ true → first_of cs < 64
unfolding all_under first_of
first_under [] h = omega arith
first_under (c ∷ cs) h = go c.applies (both (ltb c.number 64) h) (first_under cs)
  where
    go : (b : Bool) → (ltb c.number 64 ≡ true) × (all_under cs ≡ true) → (all_under cs ≡ true → first_of cs < 64) → cond b c.number (first_of cs) < 64
    go true e i = ltb-true c.number 64 e.0
    go false e i = i e.1

-- and so is the number of a list, so that an entry can answer it beside 64 times a count
pub number-under : (told : Bool) (list : List ℕ) (params : StitchParams) (room : Rooms) → stitch_number told list params room < 64
unfolding all_under
number-under told list params room = rw (number_is told list params room) (first_under (stitch_checks told list params room) refl)
