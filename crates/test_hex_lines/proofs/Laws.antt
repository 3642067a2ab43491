-- Laws of words at the front of a list.
use Rattle.std.proofs.Common.{◌≡◌, Bool, true, ℕ, ◌≤◌, List, length, take, arith, length-take}
use Rattle.test_hex_lines.specs.declared.replay.Tally.{Tally}
use Rattle.test_hex_lines.specs.Lines.{Line, fed, has_ended, counting, Replayed, replayed}

pub length_taken : (l : List ℕ) (n : ℕ) → n ≤ length l → length (take n l) ≡ n
length_taken l n h = simp length-take (omega arith)

-- a line that has ended is counted, by what its judge says
pub ended-counted : (agrees : List ℕ → Bool) (room : ℕ) (r : Replayed) (b : ℕ) (l : Line) (ws : List ℕ) (t : Tally) (a : Bool) → l ≡ fed room r.line b
    → has_ended l ≡ true → ws ≡ l.words → a ≡ agrees ws → t ≡ counting r.tally ws a → record { line = l; tally = t } ≡ replayed agrees room r b
unfolding replayed
ended-counted agrees room r b l ws t a e h w j c = rw (← e, h, c, j, w)
