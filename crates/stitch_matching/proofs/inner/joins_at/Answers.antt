use mathlib.Core.Path.{◌≡◌, refl, ◌∙◌}
use mathlib.Core.Bool.{Bool, ◌&&◌}
use mathlib.Core.List.{List, ◌∷◌}
use Prim.Native.Nat.{◌-◌}
use Rattle.row_record.specs.Record.{peak_at}
use Rattle.row_record.specs.declared.ImPeak1D.{ImPeak1D}
use Rattle.stitch_matching.specs.Matching.{same_group, frames_overlap, scans_overlap, apexes_inside}
use Rattle.stitch_matching.specs.Group.{Covers, may_join}
use Rattle.stitch_matching.proofs.Joining.{joined}
use Rattle.stitch_matching.proofs.inner.joins_at.Goals.{then-fit, else-fit, then-at, else-at, then-at-2, else-at-2, Joined-at-2}
use Rattle.stitch_matching.proofs.inner.joins_at.Goals as goal

-- what the tests but the last say together
module _ (w : Joined-at-2) where
  one : w.if-fit.value ≡ w.fit.result && same_group w.args.params (peak_at w.args.records.words.now (w.args.k - 1)) (peak_at w.args.records.words.now w.args.k)
  one = elim w.if-fit.branch [
    | then-fit t ↦ rw (t.if-fit.true, t.value-is) t.at.ensures.3
    | else-fit t ↦ rw t.if-fit.false (t.value-is ∙ t.if-fit.false)
  ]

  two : w.if-at.value ≡ w.if-fit.value && frames_overlap w.args.params (peak_at w.args.records.words.now (w.args.k - 1)) (peak_at w.args.records.words.now w.args.k)
  two = elim w.if-at.branch [
    | then-at t ↦ rw (t.if-at.true, t.value-is) t.at-then-at.ensures.3
    | else-at t ↦ rw t.if-at.false (t.value-is ∙ t.if-at.false)
  ]

  three : w.if-at-2.value ≡ w.if-at.value && scans_overlap w.args.params (peak_at w.args.records.words.now (w.args.k - 1)) (peak_at w.args.records.words.now w.args.k)
  three = elim w.if-at-2.branch [
    | then-at-2 t ↦ rw (t.if-at-2.true, t.value-is) t.at-then-at-2.ensures.3
    | else-at-2 t ↦ rw t.if-at-2.false (t.value-is ∙ t.if-at-2.false)
  ]

  all : (r : Bool) → r ≡ w.if-at-2.value && apexes_inside w.args.params (peak_at w.args.records.words.now (w.args.k - 1)) (peak_at w.args.records.words.now w.args.k) → (ps : List ImPeak1D) → Covers w.args.s (peak_at w.args.records.words.now (w.args.k - 1) ∷ ps)
      → r ≡ may_join w.args.params (peak_at w.args.records.words.now (w.args.k - 1) ∷ ps) (peak_at w.args.records.words.now w.args.k)
  all r e = joined w.args.params w.args.s w.widened.result (peak_at w.args.records.words.now (w.args.k - 1)) (peak_at w.args.records.words.now w.args.k) w.peak.result w.fit.result _ _ _ r w.widened.ensures w.peak.ensures w.fit.ensures one two three e

pub returns-then-at-3 : goal.returns-then-at-3
returns-then-at-3 c = all (goal.at.returns-then-at-3 c).Joined-at-2 _ (rw c.if-at-3.true c.at-then-at-3.ensures.3)

pub returns-else-at-3 : goal.returns-else-at-3
returns-else-at-3 c = all (goal.at.returns-else-at-3 c).Joined-at-2 _ (rw c.if-at-3.false refl)
