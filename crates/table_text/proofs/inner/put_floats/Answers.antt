use Rattle.table_text.specs.Print.{hex8, followed, ended, floats_of}
use Rattle.table_text.proofs.Buffers.{Put, put_next}
use Rattle.row_record.specs.Record.{word}
use mathlib.Core.Path.{◌≡◌}
use mathlib.Core.List.{◌++◌}
use Prim.Native.Nat.{◌+◌}
use native.Mathlib.Omega.{arith}
use Rattle.table_text.proofs.inner.put_floats.Goals as goal

pub returns : goal.returns
unfolding floats_of
returns c = let l = c.args.out.now in
    let a = c.args.at in
    let p = c.args.p in
    let n1 = c.put_float-a in
    let n2 = c.put_float-b in
    let n3 = c.put_float-c in
    let n4 = c.put_last in
    let x1 = followed (hex8 (word p.apex_raw)) in
    let x2 = followed (hex8 (word p.prominence)) in
    let x3 = followed (hex8 (word p.area_raw)) in
    let x4 = ended (hex8 (word p.subscan)) in
    let e1 : n1.result ≡ a + 9 = omega (arith, n1.ensures.value) in
    let e2 : n2.result ≡ a + 18 = omega (arith, n2.ensures.value) in
    let e3 : n3.result ≡ a + 27 = omega (arith, n3.ensures.value) in
    let e4 : n4.result ≡ a + 37 = omega (arith, n4.ensures.value) in
    let p2 : Put l a (x1 ++ x2) n2.new.out n2.result = put_next l n1.new.out n2.new.out (x1) x2 a n1.result n2.result (n1.ensures.value, n1.ensures.out_after) (n2.ensures.value, n2.ensures.out_after) (omega (arith, c.requires)) in
    let p3 : Put l a (x1 ++ x2 ++ x3) n3.new.out n3.result = put_next l n2.new.out n3.new.out (x1 ++ x2) x3 a n2.result n3.result p2 (n3.ensures.value, n3.ensures.out_after) (omega (arith, c.requires)) in
    let p4 : Put l a (x1 ++ x2 ++ x3 ++ x4) n4.new.out n4.result = put_next l n3.new.out n4.new.out (x1 ++ x2 ++ x3) x4 a n3.result n4.result p3 (n4.ensures.value, n4.ensures.out_after) (omega (arith, c.requires)) in record { value = e4; out_after = p4.1 }
