-- Records in bytes.
use Rattle.std.specs.Prelude.{ℕ}
use Rattle.row.specs.Written.{Written}
use Rattle.grid_word_bytes.specs.Bytes.{bytes_of}
use Rattle.grid_word_bytes.proofs.BytesLaws.{bytes-append, bytes-length}

-- words written as four bytes each
abbrev pub as_bytes : Written ℕ
as_bytes = record { unit = 4; put = bytes_of; joined = bytes-append; long = bytes-length }
