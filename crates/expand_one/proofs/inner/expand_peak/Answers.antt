use Rattle.std.proofs.Common.{sym, ◌∙◌}
use Rattle.expand_padded_window.proofs.Laws.{window-in}
use Rattle.expand_one.specs.Runs.{run_in}
use Rattle.expand_one.proofs.Laws.{put-frames, put-no-frames}
use Rattle.expand_one.proofs.inner.expand_peak.Goals as goal

pub expand_over-requires : goal.expand_over-requires
expand_over-requires c = let g = c.args in
    let r = g.run.now in
    let i = window-in r.ids.now g.p.frame_id_lo g.p.frame_id_hi r.params.rt_pad_frames _ _ c.requires.0.numbers (sym c.in-Some.is ∙ c.padded_window-w.ensures) in
    (c.requires.0, c.requires.1, i.0, i.1)

pub returns-in-Some-clause-put : goal.returns-in-Some-clause-put
returns-in-Some-clause-put c = let g = c.args in
    put-frames (run_in g.run.now) g.run.now.params g.weights.now g.p g.first _ _ (sym c.in-Some.is ∙ c.padded_window-w.ensures) c.expand_over.ensures.put

pub returns-in-None-clause-put : goal.returns-in-None-clause-put
returns-in-None-clause-put c = let g = c.args in
    put-no-frames (run_in g.run.now) g.run.now.params g.weights.now g.p g.first g.out.now (sym c.in-None.is ∙ c.padded_window-w.ensures)
