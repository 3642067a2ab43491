use mathlib.Core.Path.{◌≡◌, sym, ◌∙◌, ap}
use native.Mathlib.Omega.{arith}
use lib.ListN.{length}
use Rattle.stitch_peaks.specs.PeakList.{peaks_of}
use Rattle.stitch_peaks.proofs.PeakListLaws.{peaks-length}
use Rattle.sort_digits.specs.Sorted.{up_to}
use Rattle.stitch_passes.proofs.Laws.{by-none}
use Rattle.stitch_passes.proofs.inner.pass_over.Goals as goal

pub pass-requires : goal.pass-requires
pass-requires c = let n = length c.args.order.now in
    let ps = peaks_of c.args.list.now n in
    let l : length c.count_up.new.order ≡ n = c.count_up.auto.order in
    let counted : c.count_up.new.order ≡ up_to (length ps) = c.count_up.ensures ∙ ap up_to (sym (peaks-length c.args.list.now n)) in
    rw l (omega arith, omega arith, omega arith, omega arith, omega arith, rw c.width.ensures (omega arith), counted ∙ rw c.width.ensures (by-none c.args.rule ps))

pub returns : goal.returns
returns c = let l : length c.count_up.new.order ≡ length c.args.order.now = c.count_up.auto.order in rw l at c.pass.ensures
