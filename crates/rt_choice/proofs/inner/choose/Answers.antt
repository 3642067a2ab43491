use Rattle.std.proofs.Common.{◌≡◌, Bool, true, false, List, ℕ, ◌<◌, length, get_or, take, refl, sym, ◌∙◌, arith, length-set}
use Rattle.std.specs.Prelude.{Float}
use Rattle.rt_choice.specs.Chosen.{near_any}
use Rattle.rt_choice.specs.Times.{near_in_time, time_of}
use Rattle.rt_choice.proofs.Laws.{near_step, near-hit, near_none, upto-none, upto_skip, upto_take, below_set}
use Rattle.rt_choice.proofs.inner.choose.Goals as goal

-- two places are near
abbrev near : List ℕ → Float → ℕ → ℕ → Bool
near times sep = near_in_time (time_of times) sep

pub outer-init : goal.outer-init
outer-init c = (omega arith, refl, upto-none (near c.args.times.now c.args.sep) c.args.order.now c.args.out.now, (λ b h. absurd (omega arith)))

pub outer-preserved-then-is_near : goal.outer-preserved-then-is_near
outer-preserved-then-is_near c = let close = near c.args.times.now c.args.sep in
    let order = c.args.order.now in
    let out = c.outer.out in
    let n = c.outer.n in
    let a = c.outer.p-index in
    let p = get_or order a 0 in
    let b = c.loop-q.q-index in
    let inv = c.outer.invariant in
    let ks = take n out in
    let e : c.is_near.result ≡ close p (get_or ks b 0) = rw (c.is_near.ensures, c.time_of.ensures, c.time_of-time.ensures) in
    let h : b < length ks = omega arith in
    let all : near_any close p ks ≡ true = c.loop-q.invariant ∙ near-hit close p b ks h (sym e ∙ c.if-is_near.true) in
    (omega arith, inv.1, upto_skip close order c.args.out.now out a n inv.2 (omega arith) all, inv.3)

pub loop-q-preserved : goal.loop-q-preserved
loop-q-preserved c = let close = near c.args.times.now c.args.sep in
    let p = get_or c.args.order.now c.outer.p-index 0 in
    let b = c.loop-q.q-index in
    let ks = take c.outer.n c.outer.out in
    let e : c.is_near.result ≡ close p (get_or ks b 0) = rw (c.is_near.ensures, c.time_of.ensures, c.time_of-time.ensures) in
    c.loop-q.invariant ∙ near_step close p b ks (omega arith) (sym e ∙ c.if-is_near.false)

pub outer-preserved : goal.outer-preserved
outer-preserved c = let times = c.args.times.now in
    let close = near times c.args.sep in
    let order = c.args.order.now in
    let d = c.args.out.now in
    let out = c.outer.out in
    let n = c.outer.n in
    let a = c.outer.p-index in
    let p = get_or order a 0 in
    let b = c.loop-q.q-index in
    let inv = c.outer.invariant in
    let ks = take n out in
    let none : near_any close p ks ≡ false = c.loop-q.invariant ∙ near_none close p b ks (omega arith) in
    (omega arith, simp length-set inv.1, upto_take close order d out a n inv.2 (omega arith) none (omega arith), below_set (length times) n p out (omega arith) (c.requires.1 a (omega arith)) inv.3)
