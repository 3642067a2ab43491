use Rattle.table_text.specs.Print.{decimal, followed, places_of}
use Rattle.table_text.proofs.Buffers.{Put, put_next}
use Rattle.table_text.proofs.Facts.{number-most}
use native.Mathlib.Nat.{zero-add}
use mathlib.Core.Path.{◌∙◌}
use mathlib.Core.List.{◌++◌}
use Prim.Native.Nat.{◌≤◌}
use native.Mathlib.Omega.{arith}
use lib.ListN.{length}
use Rattle.table_text.proofs.inner.put_places.Goals as goal

pub put_number-b-requires : goal.put_number-b-requires
put_number-b-requires c = omega (arith, c.requires, c.put_number-a.ensures.value, c.put_number-a.auto.out, number-most c.args.p.tof_row)

pub put_number-c-requires : goal.put_number-c-requires
put_number-c-requires c = omega (arith, c.requires, c.put_number-b.ensures.value, c.put_number-b.auto.out, number-most c.args.p.scan, c.put_number-a.ensures.value, c.put_number-a.auto.out, number-most c.args.p.tof_row)

pub put_number-d-requires : goal.put_number-d-requires
put_number-d-requires c = omega (arith, c.requires, c.put_number-c.ensures.value, c.put_number-c.auto.out, number-most c.args.p.left, c.put_number-b.ensures.value, c.put_number-b.auto.out, number-most c.args.p.scan, c.put_number-a.ensures.value, c.put_number-a.auto.out, number-most c.args.p.tof_row)

pub put_number-requires : goal.put_number-requires
put_number-requires c = omega (arith, c.requires, c.put_number-d.ensures.value, c.put_number-d.auto.out, number-most c.args.p.right, c.put_number-c.ensures.value, c.put_number-c.auto.out, number-most c.args.p.left, c.put_number-b.ensures.value, c.put_number-b.auto.out, number-most c.args.p.scan, c.put_number-a.ensures.value, c.put_number-a.auto.out, number-most c.args.p.tof_row)

pub returns : goal.returns
unfolding places_of
returns c = let l = c.args.out.now in
    let p = c.args.p in
    let n1 = c.put_number-a in
    let n2 = c.put_number-b in
    let n3 = c.put_number-c in
    let n4 = c.put_number-d in
    let n5 = c.put_number in
    let x1 = followed (decimal p.tof_row) in
    let x2 = followed (decimal p.scan) in
    let x3 = followed (decimal p.left) in
    let x4 = followed (decimal p.right) in
    let x5 = followed (decimal p.width_scans) in
    let b1 : length x1 ≤ 11 = number-most p.tof_row in
    let b2 : length x2 ≤ 11 = number-most p.scan in
    let b3 : length x3 ≤ 11 = number-most p.left in
    let b4 : length x4 ≤ 11 = number-most p.right in
    let b5 : length x5 ≤ 11 = number-most p.width_scans in
    let e1 : n1.result ≤ 11 = omega (arith, n1.ensures.value) in
    let e2 : n2.result ≤ 22 = omega (arith, n2.ensures.value) in
    let e3 : n3.result ≤ 33 = omega (arith, n3.ensures.value) in
    let e4 : n4.result ≤ 44 = omega (arith, n4.ensures.value) in
    let e5 : n5.result ≤ 55 = omega (arith, n5.ensures.value) in
    let p2 : Put l 0 (x1 ++ x2) n2.new.out n2.result = put_next l n1.new.out n2.new.out (x1) x2 0 n1.result n2.result (n1.ensures.value, n1.ensures.out_after) (n2.ensures.value, n2.ensures.out_after) (omega (arith, c.requires)) in
    let p3 : Put l 0 (x1 ++ x2 ++ x3) n3.new.out n3.result = put_next l n2.new.out n3.new.out (x1 ++ x2) x3 0 n2.result n3.result p2 (n3.ensures.value, n3.ensures.out_after) (omega (arith, c.requires)) in
    let p4 : Put l 0 (x1 ++ x2 ++ x3 ++ x4) n4.new.out n4.result = put_next l n3.new.out n4.new.out (x1 ++ x2 ++ x3) x4 0 n3.result n4.result p3 (n4.ensures.value, n4.ensures.out_after) (omega (arith, c.requires)) in
    let p5 : Put l 0 (x1 ++ x2 ++ x3 ++ x4 ++ x5) n5.new.out n5.result = put_next l n4.new.out n5.new.out (x1 ++ x2 ++ x3 ++ x4) x5 0 n4.result n5.result p4 (n5.ensures.value, n5.ensures.out_after) (omega (arith, c.requires)) in record { value = p5.0 ∙ zero-add _; out_after = p5.1 }
