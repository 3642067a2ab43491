use mathlib.Core.Path.{◌≡◌}
use mathlib.Core.Bool.{true}
use mathlib.Core.List.{List}
use Prim.Native.Nat.{ℕ}
use lib.ListN.{length}
use Rattle.table_job.specs.Stands.{Within, Stands}
use Rattle.peaktable.proofs.run.Given as goal

abbrev pub invariant-loop : goal.invariant-loop
invariant-loop g l =
    (length l.buf ≡ length l.initial.buf) × (length l.row ≡ length l.initial.row) × (length l.out ≡ length l.initial.out) × Within l.buf (length l.out) l.job × (l.job.goes_on ≡ true)
    × ((input : List ℕ) × (gone : List ℕ) × Stands input gone l.buf l.out l.job)
