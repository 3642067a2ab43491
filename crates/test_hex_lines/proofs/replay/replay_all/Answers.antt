use Rattle.std.proofs.Common.{◌++◌, ◌∙◌, ap, sym, take}
use Rattle.std.specs.List.{fold}
use Rattle.std.proofs.lemmas.List.Sums.{fold-append}
use Rattle.test_hex_lines.specs.Lines.{replayed}
use Rattle.test_hex_lines.proofs.replay.replay_all.Goals as goal

pub loop-preserved : goal.loop-preserved
loop-preserved g c =
    let room = c.loop.invariant.1 in
    let b = c.loop.invariant.2 in
    let part = take c.in-Ok.k c.read.new.buf in (
      c.read.auto.buf ∙ c.loop.invariant.0,
      c.feed_all.ensures.room ∙ room,
      (
        b.0 ++ part,
        λ agrees j.
            c.feed_all.ensures.read agrees j
            ∙ ap (λ n. fold (replayed agrees n) c.loop.replay.so_far part) room
            ∙ ap (λ z. fold (replayed agrees g.row.ROOM) z part) (b.1 agrees j)
            ∙ sym (fold-append (replayed agrees g.row.ROOM) _ b.0 part),
      ),
    )
