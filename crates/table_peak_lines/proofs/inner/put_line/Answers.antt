use mathlib.Core.Path.{◌∙◌, ap}
use mathlib.Core.List.{List, ◌++◌}
use Prim.Native.Nat.{ℕ}
use native.Mathlib.Omega.{arith}
use lib.ListN.{length, drop}
use Rattle.table_peak_lines.specs.TableText.{text_of}
use Rattle.table_peak_lines.proofs.TableLaws.{row-sound, line-text, text-fits}
use Rattle.table_peak_lines.proofs.inner.put_line.Goals as goal

pub put_text-requires : goal.put_text-requires
put_text-requires c = (
  row-sound c.args.s c.args.line.now c.accept-v.new.row c.args.row.now c.accept-v.result c.accept-v.ensures.verdict c.accept-v.ensures.front,
  omega (arith, c.accept-v.auto.row, c.requires.0),
  c.requires.1,
)

pub returns : goal.returns
returns c =
    let out = c.args.out.now in
    let line = c.args.line.now in
    let e = line-text c.args.s line c.accept-v.new.row c.args.row.now c.accept-v.result c.accept-v.ensures.verdict c.accept-v.ensures.front in
    let k = c.put_text.ensures.count in
    let l = c.put_text.ensures.front in
    record {
      verdict = c.accept-v.ensures.verdict;
      count = k ∙ ap length e;
      room = text-fits (text_of c.accept-v.new.row c.accept-v.result) out c.put_text.new.out c.put_text.result k l c.put_text.auto.out;
      front = l ∙ ap (λ (x : List ℕ). x ++ drop c.put_text.result out) e;
    }
