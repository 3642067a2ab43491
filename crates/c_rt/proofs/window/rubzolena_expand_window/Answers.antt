use Rattle.std.proofs.Common.{◌∙◌, length}
use Rattle.row_record.specs.Record.{peak_at}
use Rattle.expand_window.specs.Window.{window_of}
use Rattle.c_rt.specs.Window.{call_number}
use Rattle.c_rt.proofs.WindowWords.{same-word, word-small}
use Rattle.c_rt.proofs.window.rubzolena_expand_window.Goals as goal

pub word_of-requires : goal.word_of-requires
word_of-requires c = let s = c.args in
    rw c.put_window-answer.ensures.answer (word-small s.peak.now s.ids.now s.times.now c.expand_params-params.result (length s.out.now))

pub returns : goal.returns
returns c = let s = c.args in
    let e = c.expand_params-params.result in
    let a = c.put_window-answer.ensures in
    let w = window_of s.ids.now s.times.now e (peak_at s.peak.now 0) in
    let n = call_number s.peak.now s.ids.now s.times.now e (length s.out.now) in
    rw (← c.expand_params-params.ensures) (record { word = c.word_of.ensures ∙ rw a.answer (same-word n w); out = a.list })
