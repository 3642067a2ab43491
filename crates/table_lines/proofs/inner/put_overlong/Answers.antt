use mathlib.Core.Path.{◌≡◌}
use mathlib.Core.List.{List, ◌++◌}
use Prim.Native.Nat.{ℕ}
use native.Mathlib.Omega.{arith}
use Rattle.table_text.specs.Print.{refusal}
use Rattle.table_lines.specs.Bytes.{text_from}
use Rattle.table_lines.proofs.Laws.{text-overlong}
use Rattle.table_lines.proofs.inner.put_overlong.Goals as goal

pub returns : goal.returns
returns c =
    let p = c.put_refusal in
    let t : (rest : List ℕ) → text_from c.args.s (c.args.bytes.now ++ rest) ≡ refusal = λ rest. text-overlong c.args.s c.args.bytes.now rest c.requires.0 c.requires.1 in
    record { count = λ rest. rw (t rest) p.ensures.value; room = omega (arith, p.ensures.value); front = λ rest. rw (t rest) p.ensures.out_after }
