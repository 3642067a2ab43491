use mathlib.Core.Path.{refl, sym, ◌∙◌}
use Rattle.row_search.proofs.QualifyingLaws.{kept_low}
use Rattle.row_smoothed.proofs.Laws.{smoothed-front, raw-searchable, smooth-searchable, done-raw, done-smoothed}
use Rattle.row_smoothed.proofs.Zeros.{zeros-skip}
use Rattle.row_smoothed.proofs.inner.search_row.Goals as goal

pub returns-then-not-reaches_floor-clause-done : goal.returns-then-not-reaches_floor-clause-done
returns-then-not-reaches_floor-clause-done c = let x = c.args in record { says = kept_low x.p _ x.z.now (sym c.reaches_floor.ensures ∙ c.if-not-reaches_floor.true); past = refl }

pub find_apexes-requires : goal.find_apexes-requires
find_apexes-requires c = let x = c.args in raw-searchable x.p x.z.now x.kernel.now.weights.now _ _ c.requires (sym c.reaches_floor.ensures ∙ c.if-not-reaches_floor.false)

pub returns-then-is_raw-clause-done : goal.returns-then-is_raw-clause-done
returns-then-is_raw-clause-done c = let x = c.args in done-raw x.p x.kernel.now.weights.now x.z.now x.y.now _ _ (sym c.is_raw.ensures ∙ c.if-is_raw.true) c.find_apexes.ensures.done

pub returns-then-all_zero-clause-done : goal.returns-then-all_zero-clause-done
returns-then-all_zero-clause-done c = let x = c.args in record { says = zeros-skip x.p x.kernel.now.weights.now x.z.now (sym c.all_zero.ensures ∙ c.if-all_zero.true); past = refl }

pub find_apexes-requires-2 : goal.find_apexes-requires-2
find_apexes-requires-2 c = let x = c.args in
    let f = smoothed-front x.kernel.now.weights.now x.kernel.now.divided.now x.z.now x.y.now _ x.kernel.now.normal c.smooth_by.ensures in
    smooth-searchable x.p x.z.now x.kernel.now.weights.now _ _ c.requires (sym c.reaches_floor.ensures ∙ c.if-not-reaches_floor.false) _ f.0 (sym c.is_raw.ensures ∙ c.if-is_raw.false) c.all_fit-2.ensures c.all_fit.ensures

pub returns-clause-done : goal.returns-clause-done
returns-clause-done c = let x = c.args in
    let f = smoothed-front x.kernel.now.weights.now x.kernel.now.divided.now x.z.now x.y.now _ x.kernel.now.normal c.smooth_by.ensures in
    done-smoothed x.p x.kernel.now.weights.now x.z.now x.y.now _ _ _ (sym c.is_raw.ensures ∙ c.if-is_raw.false) f c.find_apexes-2.ensures.done
