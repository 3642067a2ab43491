use native.Mathlib.Omega.{arith}
use Rattle.row_baselines.proofs.Found.{few-bases, searched}
use Rattle.row_baselines.proofs.inner.find.Goals as goal

pub fill_bases-requires : goal.fill_bases-requires
fill_bases-requires c = let d = c.turns_of-m.ensures in
    let b = few-bases c.turns_of-m.result c.requires d in
    (c.requires.plain, d.shape (omega arith), b.0, b.1, b.2)

pub returns-then-m-gt0 : goal.returns-then-m-gt0
returns-then-m-gt0 c = let d = c.turns_of-m.ensures in
    searched c.turns_of-m.result c.requires.plain d (omega (arith, (few-bases c.turns_of-m.result c.requires d).0)) c.fill_bases.ensures
