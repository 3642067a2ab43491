use mathlib.Core.Path.{◌≡◌}
use Prim.Native.Nat.{◌≤◌, ◌-◌}
use lib.ListN.{length, drop}
use Rattle.grid_rows.specs.Steps.{with_weights, Done}
use Rattle.grid_rows.specs.Lent.{SameRowScratch}
use Rattle.grid_rows.proofs.rows.detect_rows.Given as goal

abbrev pub invariant-loop-r : goal.invariant-loop-r
invariant-loop-r g l =
    let grid = g.G.Source.grid l.grid in
    record {
      out : length l.out ≡ length l.initial.out;
      same : SameRowScratch l.initial.lent l.lent;
      z : length l.lent.z.now ≡ length l.initial.lent.z.now;
      y : length l.lent.y.now ≡ length l.initial.lent.y.now;
      samples : l.lent.search.now.samples ≡ l.initial.lent.search.now.samples;
      few : l.r - l.fn.rows.start ≤ l.fn.rows.end - l.fn.rows.start;
      done : Done g.G.Form.Written.form (with_weights l.kernel.weights.now grid) l.fn.rows.start l.r l.initial.out l.out l.n;
      past : drop grid.cols l.lent.y.now ≡ drop grid.cols l.initial.lent.y.now;
    }
