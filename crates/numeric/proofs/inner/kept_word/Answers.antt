use lib.Ieee.{fits, of_bits}
use lib.Ieee.Bits.{of_bits-to_bits}
use mathlib.Core.Path.{sym, ◌∙◌, ap, subst}
use lib.Dec.{T}
use lib.Ieee.{binary32}
use Rattle.numeric.proofs.inner.kept_word.Goals as goal

pub returns-clause-tells : goal.returns-clause-tells
returns-clause-tells c =
    let held : T (fits binary32 c.args.x) = subst T (sym c.well_formed.0.1) tt in
    ap (of_bits binary32) c.word_of.ensures ∙ of_bits-to_bits binary32 c.args.x held
