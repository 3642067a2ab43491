-- How the words of records are written to a lent list: as they are, or each as some bytes.
use Rattle.std.specs.Prelude.{◌≡◌, refl, List, ◌++◌, ℕ, ◌+◌, ◌*◌, length, take, drop}
use Rattle.std.proofs.Common.{sym, mul-one}
use Rattle.row_record.specs.Record.{size, words_of}
use Rattle.row_record.specs.declared.ImPeak1D.{ImPeak1D}

-- Of a list of T: `unit` is how many places a word takes.
pub record Written (T : Type 0) : Type 0 where
  pub unit : ℕ
  pub put : List ℕ → List T
  pub joined : (a b : List ℕ) → put (a ++ b) ≡ put a ++ put b
  pub long : (ws : List ℕ) → length (put ws) ≡ length ws * unit

-- a word to a place
abbrev pub as_words : Written ℕ
as_words = record { unit = 1; put = λ ws. ws; joined = λ a b. refl; long = λ ws. sym (mul-one (length ws)) }

-- the places of a record
abbrev pub stride : {T : Type 0} → Written T → ℕ
stride w = size * w.unit

-- the list with the record of p at place k
unfoldable pub with_record : {T : Type 0} → Written T → List T → ℕ → ImPeak1D → List T
with_record w l k p = take (k * stride w) l ++ (w.put (words_of p) ++ drop (k * stride w + stride w) l)
