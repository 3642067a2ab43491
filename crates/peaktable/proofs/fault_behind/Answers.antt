use mathlib.Core.Path.{◌∙◌, sym}
use Rattle.std.proofs.Common.{take}
use Rattle.peaktable.proofs.Laws.{found-last, never-unlike-last}
use Rattle.peaktable.proofs.fault_behind.Goals as goal

pub returns : goal.returns
returns c =
    let s = c.args.j.progress in
    let bytes = take c.args.j.from c.args.buf.now in
    let e = c.last_fault.ensures in
    record {
      value = e;
      found = rw e (found-last s bytes c.requires.1);
      named = λ u. never-unlike-last s bytes c.requires.1 (sym e ∙ u);
    }
