use Rattle.std.proofs.Common.{refl, sym, ◌∙◌, ap}
use Rattle.std.proofs.lemmas.Fn.{says_at}
use Rattle.test_hex_lines.specs.Lines.{Replayed, ReplayedIn, replayed}
use Rattle.test_hex_lines.proofs.Laws.{ended-counted}
use Rattle.test_hex_lines.proofs.replay.Replay.feed.Goals as goal

pub returns-then-has_ended-clause-read : goal.returns-then-has_ended-clause-read
returns-then-has_ended-clause-read g c agrees j =
    let e = j.says _ _ (says_at g.F.Fn c.judge-agrees.ensures refl) in
    let i = c.self.inside in
    let before : Replayed = record { line = i.line.line; tally = i.tally } in
    ended-counted agrees i.line.room before c.args.b _ _ c.count.new.self _ c.feed.ensures.line
    (sym c.has_ended.ensures ∙ c.if-has_ended.true) c.words-words.ensures e c.count.ensures
    ∙ ap (λ (v : ReplayedIn). replayed agrees v.room v.so_far c.args.b) c.self.view_is
