use mathlib.Core.Path.{sym}
use Prim.Native.Nat.{◌/◌}
use native.Mathlib.Omega.{arith}
use lib.ListN.{length}
use Rattle.c_word.specs.Word.{as_word}
use Rattle.grid_word_bytes.specs.Bytes.{floats_of}
use Rattle.grid_byte_rows.specs.Call.{bytes_in}
use Rattle.grid_bytes.proofs.Laws.{count_fits}
use Rattle.refusal.proofs.NumberedLaws.{err-is, number_of-small}
use Rattle.c_grid_stitch.proofs.Laws.{entry_zero, fit, accepted, refused}
use Rattle.c_grid_stitch.proofs.detect.Goals as goal

pub detect_bytes-requires : goal.detect_bytes-requires
detect_bytes-requires c = fit (bytes_in c.args.call.now (floats_of c.args.weights.now)) c.args.rows (length c.args.out.now) (entry_zero _ c.args.flag (bytes_in c.args.call.now (floats_of c.args.weights.now)) c.args.rows (length c.args.out.now / 4) (sym c.in_ok-check.ensures))

pub returns-clause-answered : goal.returns-clause-answered
returns-clause-answered c = accepted _ c.args.flag (bytes_in c.args.call.now (floats_of c.args.weights.now)) c.args.rows c.args.out.now _ _ c.in_ok-check.ensures c.detect_bytes.ensures

pub returns-in_err-check-clause-answered : goal.returns-in_err-check-clause-answered
returns-in_err-check-clause-answered c =
    rw (err-is c.from_residual.ensures.1) (refused _ c.args.flag (bytes_in c.args.call.now (floats_of c.args.weights.now)) c.args.rows c.args.out.now c.in_err-check.field-0.0 c.in_err-check.ensures)

pub returns-in_err-check-clause-word : goal.returns-in_err-check-clause-word
unfolding as_word
returns-in_err-check-clause-word c = rw (err-is c.from_residual.ensures.1) (omega (arith, number_of-small c.in_err-check.field-0.0))

pub returns-clause-word : goal.returns-clause-word
unfolding as_word
returns-clause-word c =
    omega (arith, count_fits (bytes_in c.args.call.now (floats_of c.args.weights.now)) 0 c.args.rows _ _ _ _ (fit (bytes_in c.args.call.now (floats_of c.args.weights.now)) c.args.rows (length c.args.out.now) (entry_zero _ c.args.flag (bytes_in c.args.call.now (floats_of c.args.weights.now)) c.args.rows (length c.args.out.now / 4) (sym c.in_ok-check.ensures))) c.detect_bytes.ensures)
