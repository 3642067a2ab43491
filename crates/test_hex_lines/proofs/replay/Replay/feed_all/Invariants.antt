use Rattle.std.proofs.Common.{◌≡◌, ℕ, List, Bool, take}
use Rattle.std.specs.List.{fold}
use Rattle.test_hex_lines.specs.Judges.{Judges}
use Rattle.test_hex_lines.specs.Lines.{replayed}
use Rattle.test_hex_lines.proofs.replay.Replay.feed_all.Given as goal

abbrev pub invariant-loop-b : goal.invariant-loop-b
invariant-loop-b g l =
    ((agrees : List ℕ → Bool) → Judges g.F.Fn l.judge agrees → l.self.so_far ≡ fold (replayed agrees l.initial.self.room) l.initial.self.so_far (take l.b-index l.bytes))
    × (l.self.room ≡ l.initial.self.room)
