use mathlib.Core.Path.{◌≡◌, refl, ap, sym}
use mathlib.Core.Bool.{false}
use native.Mathlib.Omega.{arith}
use lib.ListN.{length}
use Prim.Native.Nat.{◌<◌}
use Rattle.std.specs.Prelude.{Some}
use Rattle.std.specs.Float.Ieee.{le}
use Rattle.numeric.specs.Arith.{𝟎}
use Rattle.rt_fallback.specs.Fallback.{top_of, fallback_of}
use Rattle.rt_fallback.proofs.Laws.{top_within, some-reading, some-top, no-top}
use Rattle.rt_fallback.proofs.inner.fallback_rt_peak_from_trace.Goals.{In_ok-top}
use Rattle.rt_fallback.proofs.inner.fallback_rt_peak_from_trace.Goals as goal

top : (c : In_ok-top) → (le (top_of c.args.trace.now).height 𝟎 ≡ false) × (c.in_ok-top.top ≡ top_of c.args.trace.now)
top c = some-top _ _ _ c.in_ok-top.ensures

some : (c : In_ok-top) → 0 < length c.args.trace.now
some c = some-reading c.args.trace.now (top c).0

within : (c : In_ok-top) → c.in_ok-top.top.place < length c.args.trace.now
within c = top_within c.args.trace.now c.in_ok-top.top (top c).1 (some c)

pub returns-in_err-top : goal.returns-in_err-top
unfolding fallback_of
returns-in_err-top c = rw (c.from_residual.ensures, no-top _ _ c.in_err-top.ensures) refl

pub invariant_of-reach_of : goal.invariant_of-reach_of
invariant_of-reach_of c = record { inside = within (goal.at.invariant_of-reach_of c).In_ok-top }

pub invariant_of-found : goal.invariant_of-found
invariant_of-found c = record { within = record { inside = within (goal.at.invariant_of-found c).In_ok-top; short = c.requires.0; raw-short = c.requires.0 } }

pub apex_of-apex-requires : goal.apex_of-apex-requires
apex_of-apex-requires c =
    let k = (goal.at.apex_of-apex-requires c).In_ok-top in
    let i = within k in
    (some k, c.requires.0, c.requires.1 (some k), omega (arith, i, c.requires.0))

pub returns : goal.returns
unfolding fallback_of
returns c =
    let t = top (goal.at.returns c).In_ok-top in
    rw (sym t.1, rw (sym t.1) at t.0) (ap Some (simp (c.rt_peak_of.ensures, c.bounds_of-bounds.ensures, c.apex_of-apex.ensures, c.span_of-span.ensures)))
