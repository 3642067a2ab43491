use mathlib.Core.Path.{◌≡◌}
use Prim.Native.Nat.{◌/◌}
use Rattle.grid_rows.specs.Grid.{Grid}
use Rattle.grid.specs.GridNumber.{grid_number}
use Rattle.grid.proofs.Laws.{seen-number}
use Rattle.refusal.specs.Numbered.{number_in}
use Rattle.grid_word_bytes.specs.Bytes.{floats_of}
use Rattle.grid_byte_rows.specs.Call.{bytes_in}
use Rattle.c_grid_stitch.proofs.Laws.{entry-is}
use Rattle.c_grid_stitch.proofs.check.Goals as goal

pub returns-then-not-are_whole : goal.returns-then-not-are_whole
returns-then-not-are_whole c =
    rw (entry-is, ← c.are_whole.ensures, c.if-not-are_whole.true)

pub returns-then-flag-is_past_four : goal.returns-then-flag-is_past_four
returns-then-flag-is_past_four c =
    let grid_at : Grid = bytes_in c.args.call.now (floats_of c.args.weights.now) in
    let is : number_in c.check-found.result ≡ grid_number grid_at c.args.rows (c.args.room / 4) c.args.call.now.terms.cols = seen-number grid_at c.args.rows (c.args.room / 4) c.args.call.now.terms.cols _ _ c.see-seen.ensures c.check-found.ensures in
    rw (entry-is, ← c.are_whole.ensures, c.if-not-are_whole.false, ← is, ← c.is_past_four.ensures, c.if-flag-is_past_four.true)

pub returns : goal.returns
returns c =
    let grid_at : Grid = bytes_in c.args.call.now (floats_of c.args.weights.now) in
    let is : number_in c.check-found.result ≡ grid_number grid_at c.args.rows (c.args.room / 4) c.args.call.now.terms.cols = seen-number grid_at c.args.rows (c.args.room / 4) c.args.call.now.terms.cols _ _ c.see-seen.ensures c.check-found.ensures in
    rw (entry-is, ← c.are_whole.ensures, c.if-not-are_whole.false, ← is, ← c.is_past_four.ensures, c.if-flag-is_past_four.false)
