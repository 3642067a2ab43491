-- The grid that a call in bytes hands in, with weights.
use Rattle.std.specs.Prelude.{List, Float}
use Rattle.grid_rows.specs.Grid.{Grid}
use Rattle.grid_rows.specs.Steps.{grid_of}
use Rattle.grid_word_bytes.specs.Bytes.{words_of, floats_of}
use Rattle.grid_byte_rows.specs.declared.call.ByteCall.{ByteCall}

abbrev pub bytes_in : ByteCall → List Float → Grid
bytes_in c weights =
    grid_of c.terms.cols (floats_of c.used.now) (words_of c.scans.now) c.terms.scale c.terms.bounds (floats_of c.mobility.now) c.terms.params weights
    c.terms.first
