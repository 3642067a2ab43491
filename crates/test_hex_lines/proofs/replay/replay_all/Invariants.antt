use Rattle.std.proofs.Common.{◌≡◌, ℕ, List, Bool, length}
use Rattle.std.specs.List.{fold}
use Rattle.test_hex_lines.specs.Judges.{Judges}
use Rattle.test_hex_lines.specs.Lines.{at_start, replayed}
use Rattle.test_hex_lines.proofs.replay.replay_all.Given as goal

abbrev pub invariant-loop : goal.invariant-loop
invariant-loop g l =
    (length l.buf ≡ length l.initial.buf)
    × (l.replay.room ≡ g.row.ROOM)
    × ((bytes : List ℕ) × ((agrees : List ℕ → Bool) → Judges g.F.Fn l.judge agrees → l.replay.so_far ≡ fold (replayed agrees g.row.ROOM) at_start bytes))
