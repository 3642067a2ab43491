use mathlib.Core.Path.{◌≡◌, ap, ◌∙◌}
use mathlib.Core.List.{[], ◌∷◌, ◌++◌}
use Rattle.stitch_merging.specs.Merging.{group_word, one_group}
use Rattle.stitch_merging.specs.Walk.{state_of}
use Rattle.stitch_peaks.proofs.Extremes.{extreme-join}
use Rattle.stitch_merging.proofs.Laws.{any-join, all_join, first-join, any-having, first-having, or_then}
use Rattle.stitch_merging.proofs.inner.Merging.join.Goals as goal

pub returns : goal.returns
unfolding state_of
returns c = λ ps h.
    let p = c.args.p in
    let group : group_word (ps ++ (p ∷ [])) ≡ group_word ps = first-join 0 _ ps (p ∷ []) ∙ rw h.some in
    record {
      some = any-join ps p;
      state = simp (
        c.join.ensures ps (ap (λ m. m.sums) h.state),
        c.join-2.ensures ps h.some (ap (λ m. m.bounds) h.state),
        c.join-3.ensures ps (ap (λ m. m.heights) h.state),
        c.join-4.ensures ps (ap (λ m. m.sigma) h.state),
        c.or.ensures,
        c.mobility.ensures,
        c.of_group_too.ensures (one_group ps) (group_word ps) (ap (λ m. m.group) h.state),
        or_then,
        c.min.ensures,
        h.state,
        h.some,
        group,
        any-having,
        first-having,
        all_join,
        extreme-join,
      );
    }
