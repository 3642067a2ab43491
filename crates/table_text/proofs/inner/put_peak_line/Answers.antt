use Rattle.table_text.specs.Print.{peak_line, places_of, floats_of}
use Rattle.table_text.proofs.Facts.{places-most, floats-length}
use Rattle.table_text.proofs.Buffers.{Put, put_next, put_front}
use native.Mathlib.Nat.{zero-add}
use mathlib.Core.Path.{◌≡◌, sym, ◌∙◌, ap}
use Prim.Native.Nat.{ℕ, ◌≤◌, ◌+◌}
use native.Mathlib.Omega.{arith}
use lib.ListN.{length}
use Rattle.table_text.proofs.inner.put_peak_line.Goals as goal

pub put_floats-requires : goal.put_floats-requires
put_floats-requires c = let d = c.put_places-at in omega (arith, c.requires, d.ensures.value, d.auto.out, places-most c.args.p)

pub returns : goal.returns
returns c = let l = c.args.out.now in
    let p = c.args.p in
    let d = c.put_places-at in
    let f = c.put_floats in
    let m : length (places_of p) ≤ 55 = places-most p in
    let n : length (floats_of p) ≡ 37 = floats-length p in
    let x : Put l 0 (places_of p) d.new.out d.result = (d.ensures.value ∙ sym (zero-add _), d.ensures.out_after) in
    let y : Put d.new.out d.result (floats_of p) f.new.out f.result = (f.ensures.value ∙ ap (λ (z : ℕ). d.result + z) (sym n), f.ensures.out_after) in
    let t : Put l 0 (peak_line p) f.new.out f.result = put_next l d.new.out f.new.out (places_of p) (floats_of p) 0 d.result f.result x y (omega (arith, c.requires, d.ensures.value)) in
    let r : f.result ≡ length (peak_line p) = t.0 ∙ zero-add _ in record { value = r; out_after = rw r (t.1 ∙ put_front l (peak_line p)) }
