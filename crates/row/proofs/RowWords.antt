-- How many words the records of a row have.
use mathlib.Core.Path.{◌≡◌, refl}
use mathlib.Core.List.{List, [], ◌∷◌}
use Prim.Native.Nat.{ℕ, ◌+◌, ◌*◌}
use native.Mathlib.Omega.{arith}
use lib.ListN.{length, length-append}
use lib.Ieee.{Float}
use Rattle.row_record.specs.Record.{size}
use Rattle.row_record.proofs.RoundTrip.{words-length}
use Rattle.row_params.specs.declared.RowPlace.{RowPlace}
use Rattle.row_params.specs.declared.FrameBounds.{FrameBounds}
use Rattle.row.specs.Row.{peak_of, row_words}

pub row-words-length : (r : RowPlace) (f : FrameBounds) (mobility : List Float) (axis : List ℕ) (y z : List Float) (first : ℕ) (ks : List ℕ)
    → length (row_words r f mobility axis y z first ks) ≡ length ks * size
unfolding row_words
row-words-length r f mobility axis y z first [] = refl
row-words-length r f mobility axis y z first (i ∷ older) =
    let h = row-words-length r f mobility axis y z first older in
    let w = words-length (peak_of r f mobility axis y z i (first + length older)) in
    rw length-append (omega arith)
