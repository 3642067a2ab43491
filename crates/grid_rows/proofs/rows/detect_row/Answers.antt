use Rattle.grid_rows.specs.Steps.{with_weights, numbered}
use Rattle.grid_rows.proofs.Laws.{row-handed, row_done}
use Rattle.grid_rows.proofs.rows.detect_row.Goals as goal

pub list_row-requires : goal.list_row-requires
list_row-requires g c = let x = c.args in
    let grid = numbered (with_weights x.kernel.now.weights.now (g.G.Source.grid x.grid.now)) x.first in
    let room = c.requires.row in
    let lent = c.requires.lent in
    (room.0, room.1, rw c.row-row.ensures.axis (row-handed grid x.r room.0 room.2 _ _ _ lent.1 lent.2 c.row-row.ensures.readings))

pub returns-clause-done : goal.returns-clause-done
returns-clause-done g c = let x = c.args in
    let grid = numbered (with_weights x.kernel.now.weights.now (g.G.Source.grid x.grid.now)) x.first in
    let row = c.row-row.ensures in
    row_done grid x.r c.requires.row.0 c.requires.row.2 g.G.Form.Written.form _ _ _ _ _ _ _ _ row.readings row.place row.bounds row.mobility row.axis (rw c.params.ensures at c.list_row.ensures.listed)
