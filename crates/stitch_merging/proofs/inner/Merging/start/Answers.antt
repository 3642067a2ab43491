use mathlib.Core.Path.{◌≡◌, refl}
use mathlib.Core.Bool.{true}
use mathlib.Core.List.{[]}
use Rattle.stitch_peaks.specs.Extremes.{extreme, is_any}
use Rattle.stitch_merging.specs.Merging.{summed, having, have_all, first_of}
use Rattle.stitch_merging.specs.declared.inner.SigmaSums.{SigmaSums}
use Rattle.stitch_merging.specs.Walk.{state_of, sigma_of}
use Rattle.stitch_merging.proofs.Laws.{any-having-one, first-having-one, then-chosen}
use Rattle.stitch_merging.proofs.inner.Merging.start.Goals as goal
use Rattle.std.proofs.Math.Bool.{and-true}

pub returns : goal.returns
unfolding state_of sigma_of summed having extreme is_any have_all first_of
returns c = let s = c.default.result in
    let zeros : ◌≡◌ {A = SigmaSums} (record { weight = s.weight; sigma = s.sigma }) (sigma_of []) = rw (c.default.ensures.0, c.default.ensures.1) refl in
    record {
      some = refl;
      state = simp (
        c.start.ensures,
        c.start-2.ensures,
        c.start-3.ensures,
        c.join.ensures [] zeros,
        c.mobility.ensures,
        c.of_group_too.ensures true c.args.p.window_group refl,
        and-true,
        any-having-one,
        first-having-one,
        then-chosen,
      );
    }
