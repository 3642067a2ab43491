use Rattle.tof_scale.proofs.TofLaws.{bins-held, plain}
use Rattle.tof_scale.specs.Tof.{window_bins}
use borrow.Author.Tests.{le-leb, lt-leb}
use native.Mathlib.Omega.{arith}
use Rattle.tof_scale.proofs.inner.window_bins.Goals as goal

pub returns-then-hi-s : goal.returns-then-hi-s
unfolding window_bins
returns-then-hi-s c = rw (← c.min-lo.ensures, ← c.max-hi.ensures, le-leb _ _ c.if-hi-s.true)

pub overflow_sub-last : goal.overflow_sub-last
overflow_sub-last c = (bins-held c.args.s.scale c.args.s.sound).0

pub returns-then-lo-s : goal.returns-then-lo-s
unfolding window_bins
returns-then-lo-s c = rw (← c.min-lo.ensures, ← c.max-hi.ensures, lt-leb _ _ c.if-hi-s.false, le-leb _ _ c.if-lo-s.true)

pub bin_of-requires : goal.bin_of-requires
bin_of-requires c = let p = plain c.args.s.scale c.args.s.sound in
    let e = c.max.ensures in
    (omega arith, omega arith)

pub bin_of-requires-2 : goal.bin_of-requires-2
bin_of-requires-2 c = let p = plain c.args.s.scale c.args.s.sound in
    let e = c.min.ensures in
    let l = c.if-hi-s.false in
    (omega arith, omega arith)

pub returns : goal.returns
unfolding window_bins
returns c = rw (← c.min-lo.ensures, ← c.max-hi.ensures, lt-leb _ _ c.if-hi-s.false, lt-leb _ _ c.if-lo-s.false)
    (cc)
