use Rattle.tof_scale.specs.Tof.{center_at_f, last_bin}
use Rattle.numeric.specs.Numeric.{cast_f}
use Rattle.tof_scale.proofs.TofLaws.{bins-held}
use Rattle.limits.specs.Limits.{max_bin_place}
use Rattle.numeric.proofs.Patterns.{no_nan, wider}
use Rattle.tof_scale.proofs.Laws.{below_last}
use Prim.Native.Nat.{◌<◌}
use native.Mathlib.Omega.{arith}
use Rattle.tof_scale.proofs.inner.center_between.Goals.{Else-mu-of_u32}
use Rattle.tof_scale.proofs.inner.center_between.Goals as goal

-- between the first bin and the last one
inside : (c : Else-mu-of_u32) → cast_f c.args.mu < last_bin c.args.s.scale
inside c = let n = bins-held c.args.s.scale c.args.s.sound in
    below_last (last_bin c.args.s.scale) c.args.mu (omega arith) (no_nan c.args.mu (wider max_bin_place c.args.mu (omega arith) c.requires)) c.if-mu.false (rw c.of_u32.ensures at c.if-mu-of_u32.false)

pub center_of-requires : goal.center_of-requires
center_of-requires c = (bins-held c.args.s.scale c.args.s.sound).0

pub returns-then-mu : goal.returns-then-mu
unfolding center_at_f
returns-then-mu c = rw c.if-mu.true c.center_of.ensures

pub overflow_sub-last : goal.overflow_sub-last
overflow_sub-last c = (bins-held c.args.s.scale c.args.s.sound).0

pub center_of-requires-then-mu-of_u32 : goal.center_of-requires-then-mu-of_u32
center_of-requires-then-mu-of_u32 c = let n = bins-held c.args.s.scale c.args.s.sound in omega arith

pub returns-then-mu-of_u32 : goal.returns-then-mu-of_u32
unfolding center_at_f
returns-then-mu-of_u32 c = rw (c.if-mu.false, ← c.of_u32.ensures, c.if-mu-of_u32.true) c.center_of-then-mu-of_u32.ensures

pub center_of-requires-2 : goal.center_of-requires-2
center_of-requires-2 c = let l = inside (goal.at.center_of-requires-2 c).Else-mu-of_u32 in
    let e = c.cast_sat-i.ensures in
    omega arith

pub overflow_add-i : goal.overflow_add-i
overflow_add-i c = let n = bins-held c.args.s.scale c.args.s.sound in
    let l = inside (goal.at.overflow_add-i c).Else-mu-of_u32 in
    let e = c.cast_sat-i.ensures in
    record { fits = omega arith }

pub center_of-requires-3 : goal.center_of-requires-3
center_of-requires-3 c = let n = bins-held c.args.s.scale c.args.s.sound in
    let e = c.min.ensures in
    omega arith

pub returns : goal.returns
unfolding center_at_f
returns c = rw (c.if-mu.false, ← c.of_u32.ensures, c.if-mu-of_u32.false)
    (simp (c.center_of-3.ensures, c.min.ensures, c.center_of-2.ensures, c.of_u32-2.ensures, c.cast_sat-i.ensures))
