use mathlib.Core.Path.{◌≡◌, refl, sym, ◌∙◌}
use Prim.Native.Nat.{◌+◌, ◌*◌}
use native.Mathlib.Omega.{arith}
use native.Mathlib.Nat.{add-mul, zero-mul}
use Rattle.stitch_keys.proofs.Laws.{table_none, table_step}
use Rattle.stitch_keys.proofs.inner.put_keys.Goals as goal

pub loop-k-init : goal.loop-k-init
loop-k-init c = let w = c.width-width.result in
    let none : 0 * w ≡ 0 = zero-mul w in rw none (table_none c.args.rule c.args.records.words.now c.args.table.now)

pub loop-k-preserved : goal.loop-k-preserved
loop-k-preserved c = let k = c.loop-k.k in
    let w = c.width-width.result in
    let more : (k + 1) * w ≡ k * w + w = add-mul k 1 w ∙ omega arith in
    table_step c.args.rule c.args.records.words.now c.loop-k.table c.args.table.now c.put.new.out k w (k * w) ((k + 1) * w) (sym c.width-width.ensures) refl more c.loop-k.invariant
    (rw (c.peak.ensures, ← c.width-width.ensures) at c.put.ensures)

pub returns : goal.returns
returns c = let all : c.loop-k.k ≡ c.args.records.count = omega arith in rw (all, c.width-width.ensures) at c.loop-k.invariant
