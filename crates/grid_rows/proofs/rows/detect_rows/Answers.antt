use mathlib.Core.Path.{◌≡◌, refl, ◌∙◌}
use Prim.Native.Nat.{◌≤◌, ◌-◌, ◌+◌, ◌*◌}
use native.Mathlib.Omega.{arith}
use borrow.Author.Rules.{rules, scaled_fits≤}
use borrow.Rule.Slice.PartMut.{same_len_mid}
use lib.ListN.{length, length-take, length-drop}
use Rattle.row_params.specs.Params.{most_peaks}
use Rattle.row.specs.Written.{stride}
use Rattle.grid_rows.specs.Steps.{with_weights, numbered}
use Rattle.grid_rows.proofs.Laws.{listed-bound, done-start, turn-most, turn-ids, turn-fits, turn-at, turn-ready, turn-done}
use Rattle.grid_rows.proofs.rows.detect_rows.Goals as goal

pub loop-r-init : goal.loop-r-init
loop-r-init g c = record { out = refl; same = (refl, refl, refl, (refl, refl, refl)); z = refl; y = refl; samples = refl; few = omega arith; done = done-start g.G.Form.Written.form (with_weights c.args.kernel.now.weights.now (g.G.Source.grid c.args.grid.now)) c.args.rows.start c.args.out.now; past = refl }

pub overflow_mul-at : goal.overflow_mul-at
overflow_mul-at g c =
    let l = c.loop-r in
    let h = turn-at _ _ _ _ c.requires.rows.2 _ _ l.auto.r (omega arith) l.invariant.done.count g.G.Form.Written.form _ _ _ (c.PLACES.ensures ∙ g.met.G.Form.Written.places) c.requires.rows.1 l.invariant.out in search rules

pub overflow_cast-id : goal.overflow_cast-id
overflow_cast-id g c =
    let l = c.loop-r in
    let h = turn-ids _ _ _ _ c.requires.rows.2 _ _ l.auto.r (omega arith) l.invariant.done.count (rw c.first.ensures at c.first.type_inv) in search rules

pub overflow_add-id : goal.overflow_add-id
overflow_add-id g c =
    let l = c.loop-r in
    rw c.first.ensures (let h = turn-ids _ _ _ _ c.requires.rows.2 _ _ l.auto.r (omega arith) l.invariant.done.count (rw c.first.ensures at c.first.type_inv) in search rules)

pub offset_bounds-out-at : goal.offset_bounds-out-at
offset_bounds-out-at g c =
    let l = c.loop-r in
    let h = turn-at _ _ _ _ c.requires.rows.2 _ _ l.auto.r (omega arith) l.invariant.done.count g.G.Form.Written.form _ _ _ (c.PLACES.ensures ∙ g.met.G.Form.Written.places) c.requires.rows.1 l.invariant.out in search (rules, scaled_fits≤)

pub slice_bounds-detect_row-count : goal.slice_bounds-detect_row-count
slice_bounds-detect_row-count g c =
    let l = c.loop-r in
    turn-at _ _ _ _ c.requires.rows.2 _ _ l.auto.r (omega arith) l.invariant.done.count g.G.Form.Written.form _ _ _ (c.PLACES.ensures ∙ g.met.G.Form.Written.places) c.requires.rows.1 l.invariant.out

pub slice_bounds-detect_row-start : goal.slice_bounds-detect_row-start
slice_bounds-detect_row-start g c =
    let l = c.loop-r in
    let h = turn-at _ _ _ _ c.requires.rows.2 _ _ l.auto.r (omega arith) l.invariant.done.count g.G.Form.Written.form _ _ _ (c.PLACES.ensures ∙ g.met.G.Form.Written.places) c.requires.rows.1 l.invariant.out in search rules

pub detect_row-n-requires-clause-row : goal.detect_row-n-requires-clause-row
detect_row-n-requires-clause-row g c =
    let x = c.args in
    let l = c.loop-r in
    let grid = with_weights x.kernel.now.weights.now (g.G.Source.grid x.grid.now) in
    let w = g.G.Form.Written.form in
    let e : c.PLACES.result ≡ stride w = c.PLACES.ensures ∙ g.met.G.Form.Written.places in
    let fits = turn-fits grid x.rows.start x.rows.end c.requires.rows.0 c.requires.rows.2 l.r l.n l.auto.r (omega arith) l.invariant.done.count w (length l.out) (rw l.invariant.out c.requires.rows.1) in
    let left = c.requires.rows.0 - l.n * 27 in
    (left, rw (length-take, length-drop, e) (omega (arith, fits.1)), rw c.first.ensures (turn-ready grid x.rows.start x.rows.end c.requires.rows.0 c.requires.rows.2 l.r l.n l.auto.r (omega arith) l.invariant.done.count left (omega arith)))

pub overflow_add-n : goal.overflow_add-n
overflow_add-n g c =
    let x = c.args in
    let l = c.loop-r in
    let grid = with_weights x.kernel.now.weights.now (g.G.Source.grid x.grid.now) in
    let most : l.n + most_peaks grid.cols ≤ (x.rows.end - x.rows.start) * most_peaks grid.cols =
    turn-most grid x.rows.start x.rows.end c.requires.rows.0 c.requires.rows.2 l.r l.n l.auto.r (omega arith) l.invariant.done.count in
    let b = listed-bound (numbered grid (grid.first + l.n)) l.r in
    omega (arith, most, b, c.requires.rows.2.ids, rw c.first.ensures at c.detect_row-n.ensures.done.count)

pub loop-r-preserved : goal.loop-r-preserved
loop-r-preserved g c =
    let x = c.args in
    let l = c.loop-r in
    let grid = with_weights x.kernel.now.weights.now (g.G.Source.grid x.grid.now) in
    let w = g.G.Form.Written.form in
    let e : c.PLACES.result ≡ stride w = c.PLACES.ensures ∙ g.met.G.Form.Written.places in
    let d = c.detect_row-n in
    record {
      out = same_len_mid (l.n * c.PLACES.result) (length l.out - l.n * c.PLACES.result) l.out d.new.out d.auto.out ∙ l.invariant.out;
      same = (l.invariant.same.0, l.invariant.same.1, l.invariant.same.2, (d.ensures.lists.0 ∙ l.invariant.same.3.0, d.ensures.lists.1 ∙ l.invariant.same.3.1, d.ensures.lists.2 ∙ l.invariant.same.3.2));
      z = d.auto.z ∙ l.invariant.z;
      y = d.auto.y ∙ l.invariant.y;
      samples = d.ensures.samples ∙ l.invariant.samples;
      few = omega arith;
      done = rw e (turn-done grid x.rows.start x.rows.end c.requires.rows.0 c.requires.rows.2 l.r l.n l.auto.r (omega arith) l.invariant.done.count w x.out.now l.out _ _ l.invariant.done (rw (e, c.first.ensures) at d.ensures.done));
      past = d.ensures.past ∙ l.invariant.past;
    }
