use Rattle.std.proofs.Common.{sym, arith}
use Rattle.row_record.specs.Record.{peak_at}
use Rattle.expand_window.proofs.WindowLaws.{ready, sound-numbers}
use Rattle.expand_window.proofs.expand_im_peak_window.Goals as goal

pub peak_at-p-requires : goal.peak_at-p-requires
peak_at-p-requires c = let s = c.args in omega (arith, (ready s.peak.now s.ids.now s.times.now s.e (sym c.in_ok-check.ensures)).one)

pub window_of-requires : goal.window_of-requires
window_of-requires c = let s = c.args in
    let r = ready s.peak.now s.ids.now s.times.now s.e (sym c.in_ok-check.ensures) in
    let few = r.few in
    (r.rise, omega arith, r.paired, rw c.peak_at-p.ensures (sound-numbers (peak_at s.peak.now 0) r.sound))
