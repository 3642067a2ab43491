-- Laws of records in bytes.
use mathlib.Core.Path.{◌≡◌, sym, ◌∙◌}
use mathlib.Core.List.{List, ◌++◌}
use Prim.Native.Nat.{ℕ, ◌-◌, ◌*◌, ◌/◌, ◌<◌}
use native.Mathlib.Omega.{arith}
use borrow.Rule.Slice.PartMut.{put_mid}
use lib.ListN.{length, get_or, take, drop, drop_of_length-le}
use lib.Ieee.{Float, nan, binary32, of_bits}
use Rattle.std.proofs.lemmas.List.{get_or_default}
use Rattle.row_record.specs.Record.{size, size_in_bytes, words_of as peak_words, with_peak}
use Rattle.row_record.specs.declared.ImPeak1D.{ImPeak1D}
use Rattle.row_record.proofs.Laws.{put-part}
use Rattle.row.specs.Written.{with_record}
use Rattle.grid_word_bytes.specs.Bytes.{word_at, words_of, floats_of, bytes_of}
use Rattle.grid_word_bytes.proofs.BytesLaws.{words-length, word-get, floats-length, float-get}
use Rattle.grid_byte_rows.specs.AsBytes.{as_bytes}

-- ---- the record of a peak

-- the words of a record, of an array that it fills
pub record-words : (zeros last : List ℕ) (p : ImPeak1D) → length zeros ≡ size → last ≡ with_peak zeros 0 p → last ≡ peak_words p
unfolding with_peak
record-words zeros last p h e = e ∙ rw (drop_of_length-le zeros {i = size} (omega arith))

-- its bytes, written through the part `&mut out[at..]`
pub record-put : (out ws last : List ℕ) (k : ℕ) (p : ImPeak1D) → ws ≡ peak_words p
    → last ≡ bytes_of ws ++ drop (length ws * 4) (take (length out - k * size_in_bytes) (drop (k * size_in_bytes) out))
    → put_mid (k * size_in_bytes) (length out - k * size_in_bytes) out last ≡ with_record as_bytes out k p
unfolding with_record
record-put out ws last k p e h =
    let l : last ≡ bytes_of (peak_words p) ++ drop size_in_bytes (take (length out - k * size_in_bytes) (drop (k * size_in_bytes) out)) = h ∙ rw e in
    put-part out (bytes_of (peak_words p)) last (k * size_in_bytes) size_in_bytes l

-- ---- values in bytes, whatever stands for those past the end
pub word-item : (b : List ℕ) (k d : ℕ) → k < length (words_of b) → word_at b k ≡ get_or (words_of b) k d
word-item b k d h =
    let l = words-length b (length b / 4) in
    sym (word-get b (length b / 4) k (omega arith)) ∙ get_or_default (words_of b) k 0 d h

pub float-item : (b : List ℕ) (k : ℕ) (d : Float) → k < length (floats_of b) → of_bits binary32 (word_at b k) ≡ get_or (floats_of b) k d
float-item b k d h =
    let l = floats-length b in
    sym (float-get b k (omega arith)) ∙ get_or_default (floats_of b) k nan d h
