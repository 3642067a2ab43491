use mathlib.Core.Path.{◌≡◌, ap}
use Prim.Native.Nat.{◌<◌, ◌+◌, ◌*◌}
use native.Mathlib.Omega.{arith}
use lib.ListN.{length, length-set}
use Rattle.row_baselines.specs.Lows.{mark_at}
use Rattle.row_baselines.proofs.Laws.{ends-below, push-one, push-walks}
use Rattle.row_baselines.proofs.inner.Stack.pass.Goals as goal

pub pop-low-requires : goal.pop-low-requires
pop-low-requires c = let mark = mark_at c.args.at.y.now c.args.at.turns.now in (
  c.requires.1,
  rw c.valley.ensures c.requires.2.stacked,
  c.requires.2.walks,
  rw c.apex-h.ensures (ends-below mark c.args.at.m c.args.at.k (omega arith)),
)

pub returns : goal.returns
returns c = let mark = mark_at c.args.at.y.now c.args.at.turns.now in
    let w = c.pop-low in
    let h = c.apex-h.ensures in
    let v = c.valley.ensures in
    let popped = rw (h, v) at w.ensures.popped in
    let found = rw h at c.left_of-left.ensures in
    let bases = w.new.bases in
    let stack = w.new.self.words.now in
    let d = w.new.self.depth in
    let same : length stack ≡ length c.args.self.now.words.now = ap length w.ensures.words in
    let long : c.args.at.k < length bases = omega (arith, w.auto.bases, c.requires.0, c.requires.1.bases-long) in
    let deep : 2 * d + 1 < length stack = omega (arith, same, w.ensures.popped.stacked.few, c.requires.0, c.requires.1.stack-long) in
    record {
      swept = record {
        stacked = push-one mark c.args.at.m c.args.at.k bases stack d w.result c.left_of-left.result c.requires.0 long deep popped found;
        walks = push-walks mark c.args.at.m c.args.at.k bases stack d w.result c.left_of-left.result c.requires.0 long deep popped found;
      };
      long = simp length-set same;
    }
