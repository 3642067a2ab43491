use Rattle.std.proofs.Common.{sym, ◌∙◌}
use Rattle.row_record.specs.Record.{peak_at}
use Rattle.expand_window.specs.Window.{window_of, window_number}
use Rattle.c_rt.proofs.WindowWords.{none-refuses, window-is, places-few, put-some, put-none}
use Rattle.c_rt.proofs.window.put_window.Goals as goal

pub overflow_cast-w : goal.overflow_cast-w
overflow_cast-w c = let s = c.args in
    record { fits = (places-few s.peak.now s.ids.now s.times.now s.params c.in-Some.w c.in_ok-window.window c.in_ok-window.ensures (sym c.in-Some.is)).0 }

pub overflow_cast-w-2 : goal.overflow_cast-w-2
overflow_cast-w-2 c = let s = c.args in
    record { fits = (places-few s.peak.now s.ids.now s.times.now s.params c.in-Some.w c.in_ok-window.window c.in_ok-window.ensures (sym c.in-Some.is)).1 }

pub returns : goal.returns
returns c = let s = c.args in
    let n = window_number s.peak.now s.ids.now s.times.now s.params in
    let w = window_of s.ids.now s.times.now s.params (peak_at s.peak.now 0) in
    let h = c.in_ok-window.ensures in
    let a = put-some n w s.out.now c.in-Some.w c.put.new.out (none-refuses n w c.in_ok-window.window h) (sym c.in-Some.is ∙ window-is n w c.in_ok-window.window h) c.if-out-lt3.false c.put.ensures in
    record { answer = a.0; list = a.1 }

pub returns-in_default : goal.returns-in_default
returns-in_default c = let s = c.args in
    let n = window_number s.peak.now s.ids.now s.times.now s.params in
    let w = window_of s.ids.now s.times.now s.params (peak_at s.peak.now 0) in
    let h = c.in_ok-window.ensures in
    let a = put-none n w s.out.now (none-refuses n w c.in_ok-window.window h) (sym c.in_default.is ∙ window-is n w c.in_ok-window.window h) c.if-out-lt3.false in
    record { answer = a.0; list = a.1 }
