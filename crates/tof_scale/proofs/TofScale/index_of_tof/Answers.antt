use Rattle.std.proofs.Common.{rules, ◌≤◌, sym, ◌∙◌}
use Rattle.tof_scale.proofs.TofLaws.{scale-above, plain}
use Rattle.tof_scale.proofs.TofScale.index_of_tof.Goals as goal

pub then-requires : goal.then-requires
then-requires c inside = let s = c.in_ok-s.s in
    let e = c.in_ok-s.ensures.same in
    let low = (plain s.scale s.sound).step-low in
    let above : s.scale.tof_min ≤ c.args.tof = rw e (scale-above c.args.self c.args.tof (sym c.in_scale.ensures ∙ inside)) in
    search (rules, low, above)
