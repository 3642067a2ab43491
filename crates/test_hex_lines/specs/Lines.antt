-- Lines of hexadecimal words, read a byte at a time, and the count of those that differ from what they should say.
use Rattle.std.specs.Prelude.{ℕ, ◌+◌, ◌-◌, ◌*◌, ◌%◌, ◌^◌, Bool, true, false, cond, ◌&&◌, List, [], ◌∷◌, ◌++◌, length, ◌==◌, nat_le, nat_lt, Option, Some, None}
use Rattle.test_hex_lines.specs.declared.replay.Tally.{Tally}
use Rattle.test_hex_lines.specs.declared.Stage.{Stage}
use Rattle.test_hex_lines.specs.declared.Stage.TheVariants.{Words, PassedOver, Ended}

-- ---- a line

-- What the bytes of a line say so far: its whole words, the word that is being read, where one is, and whether the line goes on, is
-- passed over or has ended.
pub record Line : Type 0 where
  pub words : List ℕ
  pub word : Option ℕ
  pub stage : Stage

-- a line, and how many words it has room for
pub record LineIn : Type 0 where
  pub line : Line
  pub room : ℕ

-- before the first byte
abbrev pub no_line : Line
no_line = record { words = []; word = None; stage = Words }

unfoldable pub has_ended : Line → Bool
has_ended l = elim l.stage [ Words ↦ false | PassedOver ↦ false | Ended ↦ true ]

unfoldable pub is_passed : Line → Bool
is_passed l = elim l.stage [ Words ↦ false | PassedOver ↦ true | Ended ↦ false ]

-- the value of a hexadecimal digit, 0 to 9 or a to f
unfoldable pub digit_of : ℕ → Option ℕ
digit_of b =
    cond (nat_le 48 b && nat_le b 57) (Some (b - 48))
    (cond (nat_le 97 b && nat_le b 102) (Some (b - 87))
    None)

-- words, with one more behind them, which is dropped where there is no room
unfoldable pub with_word : ℕ → List ℕ → Option ℕ → List ℕ
with_word room ws None = ws
with_word room ws (Some w) = cond (nat_lt (length ws) room) (ws ++ (w ∷ [])) ws

-- The word that is being read has ended.
unfoldable pub closed_by : ℕ → Stage → Line → Line
closed_by room stage l = record { words = with_word room l.words l.word; word = None; stage = stage }

-- a word with one digit more, of which the last eight count
abbrev pub with_digit : Option ℕ → ℕ → ℕ
with_digit None d = d
with_digit (Some w) d = w % 0x1000_0000 * 16 + d

-- a digit makes a word, any other byte ends one
abbrev pub typed : ℕ → Line → Option ℕ → Line
typed room l (Some d) = record { words = l.words; word = Some (with_digit l.word d); stage = Words }
typed room l None = closed_by room Words l

-- One byte more of a line that has not ended. A line feed ends it; a '#' before the end of its first word has it passed over.
unfoldable pub next_in : ℕ → Line → ℕ → Line
next_in room l b =
    cond (b == 10) (closed_by room Ended l)
    (cond (is_passed l) l
    (cond (b == 35 && length l.words == 0) (record { words = []; word = None; stage = PassedOver })
    (typed room l (digit_of b))))

-- One byte more, with room for so many words. The byte after a line's end is the first of the next one.
unfoldable pub fed : ℕ → Line → ℕ → Line
fed room l b = next_in room (cond (has_ended l) no_line l) b

-- ---- the count

-- lines and differences, with one line more: one without words is not counted
unfoldable pub counting : Tally → List ℕ → Bool → Tally
counting t [] agrees = t
counting t (w ∷ ws) agrees = record { lines = (t.lines + 1) % 2 ^ 64; differ = cond agrees t.differ ((t.differ + 1) % 2 ^ 64) }

-- what is read and what is counted
pub record Replayed : Type 0 where
  pub line : Line
  pub tally : Tally

-- the same, and how many words a line has room for
pub record ReplayedIn : Type 0 where
  pub so_far : Replayed
  pub room : ℕ

-- before the first byte
abbrev pub at_start : Replayed
at_start = record { line = no_line; tally = record { lines = 0; differ = 0 } }

-- one byte more, where each line that has ended agrees or not
unfoldable pub replayed : (List ℕ → Bool) → ℕ → Replayed → ℕ → Replayed
replayed agrees room r b =
    let l = fed room r.line b in
    record { line = l; tally = cond (has_ended l) (counting r.tally l.words (agrees l.words)) r.tally }
