use mathlib.Core.Path.{◌≡◌}
use mathlib.Core.Bool.{true}
use Prim.Native.Nat.{◌-◌}
use lib.ListN.{length}
use Rattle.table_text.specs.Text.{next_line}
use Rattle.table_lines.specs.Bytes.{Put}
use Rattle.table_lines.proofs.inner.put_lines.Given as goal

abbrev pub invariant-loop-out : goal.invariant-loop-out
invariant-loop-out l =
    (length l.row ≡ length l.initial.row) × (length l.out ≡ length l.initial.out) × (l.f.goes_on ≡ true) × Put l.initial.f.progress l.bytes l.initial.out l.out l.f × (next_line l.bytes l.look ≡ next_line l.bytes l.f.from)

abbrev pub decreases-loop-out : goal.decreases-loop-out
decreases-loop-out l = length l.bytes - l.f.from
