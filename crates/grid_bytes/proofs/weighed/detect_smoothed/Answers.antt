use Prim.Native.Nat.{◌/◌}
use native.Mathlib.Omega.{arith}
use lib.Seq.{length-take-le}
use lib.ListN.{length}
use mathlib.Core.Path.{sym, ◌∙◌, subst}
use mathlib.Core.List.{List}
use lib.Ieee.{Float}
use Rattle.grid_word_bytes.specs.Bytes.{floats_of}
use Rattle.grid_word_bytes.proofs.Laws.{decoded-floats, decode-from}
use Rattle.grid_rows.specs.Steps.{Ready, Done}
use Rattle.grid_byte_rows.specs.Call.{bytes_in}
use Rattle.grid_byte_rows.specs.AsBytes.{as_bytes}
use Rattle.grid_bytes.proofs.Laws.{weights-ranged, bytes-fit, fills-front}
use Rattle.grid_bytes.proofs.weighed.detect_smoothed.Goals as goal

pub slice_bounds-ws-end : goal.slice_bounds-ws-end
slice_bounds-ws-end c = bytes-fit c.args.weights.now c.requires.0.weighed

pub slice_bounds-decode_floats-end : goal.slice_bounds-decode_floats-end
slice_bounds-decode_floats-end c = sym (length-take-le (length c.args.weights.now / 4) _ (bytes-fit c.args.weights.now c.requires.0.weighed))

pub decode_floats-requires : goal.decode_floats-requires
decode_floats-requires c = let b = c.args.weights.now in (decode-from b _ (bytes-fit b c.requires.0.weighed), weights-ranged (floats_of b) c.requires.0.weighed)

pub slice_bounds-ws-end-2 : goal.slice_bounds-ws-end-2
slice_bounds-ws-end-2 c = (fills-front _ _ _ _ c.decode_floats.auto.out (bytes-fit c.args.weights.now c.requires.0.weighed)).0

pub slice_bounds-normalise-end : goal.slice_bounds-normalise-end
slice_bounds-normalise-end c = (fills-front _ _ _ _ c.decode_floats.auto.out (bytes-fit c.args.weights.now c.requires.0.weighed)).1

pub slice_bounds-u-end : goal.slice_bounds-u-end
slice_bounds-u-end c = bytes-fit c.args.weights.now c.requires.0.weighed

pub slice_bounds-normalise-end-2 : goal.slice_bounds-normalise-end-2
slice_bounds-normalise-end-2 c = sym (length-take-le (length c.args.weights.now / 4) _ (bytes-fit c.args.weights.now c.requires.0.weighed))

pub slice_bounds-ws-end-3 : goal.slice_bounds-ws-end-3
slice_bounds-ws-end-3 c = (fills-front _ _ _ _ c.decode_floats.auto.out (bytes-fit c.args.weights.now c.requires.0.weighed)).0

pub slice_bounds-kernel-end : goal.slice_bounds-kernel-end
slice_bounds-kernel-end c = (fills-front _ _ _ _ c.decode_floats.auto.out (bytes-fit c.args.weights.now c.requires.0.weighed)).1

pub slice_bounds-u-end-2 : goal.slice_bounds-u-end-2
slice_bounds-u-end-2 c = (fills-front _ _ _ _ c.normalise.auto.u (bytes-fit c.args.weights.now c.requires.0.weighed)).0

pub slice_bounds-kernel-end-2 : goal.slice_bounds-kernel-end-2
slice_bounds-kernel-end-2 c = (fills-front _ _ _ _ c.normalise.auto.u (bytes-fit c.args.weights.now c.requires.0.weighed)).1

pub invariant_of-kernel : goal.invariant_of-kernel
invariant_of-kernel c =
    let n = c.normalise in record { normal = (fills-front _ _ _ _ n.auto.u (bytes-fit c.args.weights.now c.requires.0.weighed)).2 ∙ n.ensures }

pub detect_rows-requires : goal.detect_rows-requires
detect_rows-requires c =
    let b = c.args.weights.now in
    let w = c.decode_floats in
    let fits = bytes-fit b c.requires.0.weighed in
    let is = (fills-front _ _ _ _ w.auto.out fits).2 ∙ decoded-floats b _ w.new.out fits w.ensures in
    let ready = subst (λ (l : List Float). Ready (bytes_in c.args.call.now l) c.args.rows.start c.args.rows.end (length c.args.out.now / 4)) (sym is) c.requires.0 in
    record { rows = (length c.args.out.now / 4, omega arith, ready); lent = c.requires.1 }

pub returns-clause-done : goal.returns-clause-done
returns-clause-done c =
    let b = c.args.weights.now in
    let w = c.decode_floats in
    let fits = bytes-fit b c.requires.0.weighed in
    let is = (fills-front _ _ _ _ w.auto.out fits).2 ∙ decoded-floats b _ w.new.out fits w.ensures in
    subst (λ (l : List Float). Done as_bytes (bytes_in c.args.call.now l) c.args.rows.start c.args.rows.end c.args.out.now c.detect_rows.new.out c.detect_rows.result) is c.detect_rows.ensures.done
