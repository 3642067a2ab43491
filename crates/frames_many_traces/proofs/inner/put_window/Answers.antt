use Rattle.std.proofs.Common.{◌≡◌, ◌+◌, ◌-◌, ◌*◌, ◌∷◌, [], ◌++◌, take, ap, arith}
use lib.Seq.{drop-drop}
use Rattle.frames_many_traces.proofs.Laws.{kept}
use Rattle.frames_many_traces.proofs.inner.put_window.Goals as goal

pub returns : goal.returns
returns c =
    let d = c.args.windows.now in
    let w = c.args.w in
    let a = 4 * c.args.k in
    let four : a + 4 - a ≡ 4 = omega arith in
    kept c.args.k w d _ c.requires
    (rw (four, c.copy_from_slice.ensures.after) (ap (λ x. take a d ++ ((w.bin_lo ∷ w.bin_hi ∷ w.scan_lo ∷ w.scan_hi ∷ []) ++ x)) (drop-drop 4 a d)))
