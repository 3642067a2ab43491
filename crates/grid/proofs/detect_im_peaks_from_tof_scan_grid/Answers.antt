use mathlib.Core.Path.{sym}
use lib.ListN.{length}
use Rattle.grid_rows.specs.Grid.{Grid}
use Rattle.grid_rows.specs.Steps.{call_grid}
use Rattle.refusal.proofs.NumberedLaws.{err-is}
use Rattle.grid.proofs.Laws.{seen-number, Accepted, accepted, answered, refused}
use Rattle.grid.proofs.detect_im_peaks_from_tof_scan_grid.Goals.{In_ok-check}
use Rattle.grid.proofs.detect_im_peaks_from_tof_scan_grid.Goals as goal

held : (c : In_ok-check) → Accepted (call_grid c.args.cols c.args.data_raw.now c.args.«data».now c.args.scans.now c.args.scale c.args.bounds c.args.mobility.now c.args.p c.args.weights.now c.args.first) c.args.rows (length c.args.out.now) (length c.args.scratch.now)
held c =
    let grid_at : Grid = call_grid c.args.cols c.args.data_raw.now c.args.«data».now c.args.scans.now c.args.scale c.args.bounds c.args.mobility.now c.args.p c.args.weights.now c.args.first in
    accepted grid_at c.args.rows (length c.args.out.now) (length c.args.scratch.now) (sym (seen-number grid_at c.args.rows _ _ _ _ c.see-seen.ensures c.in_ok-check.ensures))

pub returns-in_err-check : goal.returns-in_err-check
returns-in_err-check c =
    let grid_at : Grid = call_grid c.args.cols c.args.data_raw.now c.args.«data».now c.args.scans.now c.args.scale c.args.bounds c.args.mobility.now c.args.p c.args.weights.now c.args.first in
    rw (err-is c.from_residual.ensures.1) (refused c.in_err-check.field-0.0 grid_at c.args.rows c.args.out.now c.args.scratch.now (seen-number grid_at c.args.rows _ _ _ _ c.see-seen.ensures c.in_err-check.ensures))

pub detect-requires : goal.detect-requires
detect-requires c = let a = held (goal.at.detect-requires c).In_ok-check in (a.ready, a.long, a.narrow)

pub returns : goal.returns
returns c =
    let grid_at : Grid = call_grid c.args.cols c.args.data_raw.now c.args.«data».now c.args.scans.now c.args.scale c.args.bounds c.args.mobility.now c.args.p c.args.weights.now c.args.first in
    let d = c.detect in
    answered grid_at c.args.rows c.args.out.now _ c.args.scratch.now _ _ (sym (seen-number grid_at c.args.rows _ _ _ _ c.see-seen.ensures (goal.at.returns c).In_ok-check.in_ok-check.ensures)) d.auto.y d.ensures.done d.ensures.past
