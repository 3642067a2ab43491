-- Which number of document 01 a call on an index is answered with, 0 for none, and what is left of it.
use Rattle.std.specs.Prelude.{◌≡◌, true, false, cond, not, ◌&&◌, List, [], ◌∷◌, ◌++◌, ℕ, ◌+◌, eqb, ltb, length, drop, Float}
use Rattle.refusal.specs.Refusal.{Check, first_of}
use Rattle.refusal.specs.Answers.{Says, answer_by}
use Rattle.frames_index.specs.declared.inner.Seen.{Seen}
use Rattle.frames_index.specs.declared.numbers.Further.{Further}
use Rattle.frames_index.specs.FrameIndex.{Index, too_large, sound_index, seen_in}

-- The checks of a call on an index, the lowest number first: what reading the index shows, and what the call is asked besides.
abbrev pub index_checks : Seen → Further → List Check
index_checks s f =
    record { number = 1; applies = not (s.agreeing && f.lengths) }
    ∷ record { number = 2; applies = not (not s.too_large && f.sizes) }
    ∷ record { number = 3; applies = not s.readings }
    ∷ record { number = 4; applies = not f.values }
    ∷ record { number = 5; applies = not (s.scans && f.axes) }
    ∷ record { number = 6; applies = not f.weights }
    ∷ record { number = 7; applies = not f.order }
    ∷ record { number = 9; applies = not f.records }
    ∷ record { number = 20; applies = not f.room }
    ∷ record { number = 21; applies = not f.scratch }
    ∷ record { number = 22; applies = not f.scale }
    ∷ record { number = 23; applies = not s.sound }
    ∷ []

-- the number of a call, for readings up to a limit
unfoldable pub index_number : ℕ → Index → Further → ℕ
index_number limit ix f = first_of (index_checks (seen_in limit ix) f)

-- what holds of a call that no number refuses
pub record Accepted (ix : Index) (f : Further) : Type 0 where
  pub some : ltb 0 (length ix.starts) ≡ true
  pub offsets : length ix.offsets ≡ length ix.bins + 1
  pub readings : length ix.scans ≡ length ix.readings
  pub small : too_large ix ≡ false
  pub sound : sound_index ix ≡ true
  pub lengths : f.lengths ≡ true
  pub sizes : f.sizes ≡ true
  pub values : f.values ≡ true
  pub axes : f.axes ≡ true
  pub weights : f.weights ≡ true
  pub order : f.order ≡ true
  pub records : f.records ≡ true
  pub room : f.room ≡ true
  pub scratch : f.scratch ≡ true
  pub scale : f.scale ≡ true

-- nothing is asked besides, or all of it is met: a call names what it asks and takes the rest from here
abbrev pub met : Further
met =
    record {
      lengths = true;
      sizes = true;
      values = true;
      axes = true;
      weights = true;
      order = true;
      records = true;
      room = true;
      scratch = true;
      scale = true;
    }

-- What is left of a call that puts sums to the front of a lent list. Accepted, with number 0: the count of the sums is answered, the sums
-- stand at the front, and behind them what was there. Refused: the number is answered, and all is as it was.
pub record Front (number : ℕ) (sums was is : List Float) (says : Says ℕ) : Type 0 where
  pub answered : says ≡ answer_by number (length sums)
  pub out : is ≡ cond (eqb number 0) (sums ++ drop (length sums) was) was
