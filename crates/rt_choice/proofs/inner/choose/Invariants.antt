use mathlib.Core.Path.{◌≡◌}
use mathlib.Core.Bool.{Bool}
use mathlib.Core.List.{List}
use Prim.Native.Nat.{ℕ, ◌≤◌, ◌<◌}
use lib.ListN.{length, get_or, drop}
use lib.Ieee.{Float}
use Rattle.rt_choice.specs.Chosen.{near_any}
use Rattle.rt_choice.specs.Times.{near_in_time, time_of}
use Rattle.rt_choice.proofs.Laws.{Upto}
use Rattle.rt_choice.proofs.inner.choose.Given as goal

-- two places are near
abbrev near : List ℕ → Float → ℕ → ℕ → Bool
near times sep = near_in_time (time_of times) sep

abbrev pub invariant-loop-q : goal.invariant-loop-q
invariant-loop-q l = near_any (near l.times l.sep) l.p l.q-items ≡ near_any (near l.times l.sep) l.p (drop l.q-index l.q-items)

abbrev pub invariant-outer : goal.invariant-outer
invariant-outer l =
    (l.n ≤ l.p-index) × (length l.out ≡ length l.initial.out) × Upto (near l.times l.sep) l.order l.initial.out l.p-index l.out l.n
    × ((b : ℕ) → b < l.n → get_or l.out b 0 < length l.times)
