-- Laws of retention records in a list.
use mathlib.Core.Path.{◌≡◌, ◌∙◌}
use mathlib.Core.List.{List}
use Prim.Native.Nat.{ℕ, ◌≤◌, ◌+◌, ◌-◌}
use native.Mathlib.Nat.{zero-add}
use native.Mathlib.Omega.{arith}
use lib.Dec.{lit<}
use lib.ListN.{length, take, drop}
use lib.Seq.{get_or-take, get_or-drop}
use Rattle.row_record.proofs.Records.{Agree}
use Rattle.rt_record.specs.RtRecord.{apex_size, rt_size, local_size, apex_from, rt_peak_from, local_from}

-- the words of the part `&list[a..]`
pub part : (n : ℕ) (l : List ℕ) (a : ℕ) → a + n ≤ length l → Agree n (take (length l - a) (drop a l)) 0 l a
part n l a h j b = rw zero-add (get_or-take (length l - a) (drop a l) j 0 (omega arith) ∙ get_or-drop a l j 0)

-- ---- a record depends on its own words alone

own-apex : (l m : List ℕ) (a b : ℕ) → Agree apex_size l a m b → apex_from l a ≡ apex_from m b
unfolding apex_from
own-apex l m a b h =
    rw (
      h 0 (lit< tt),
      h 1 (lit< tt),
      h 2 (lit< tt),
      h 3 (lit< tt),
      h 4 (lit< tt),
      h 5 (lit< tt),
      h 6 (lit< tt),
      h 7 (lit< tt),
      h 8 (lit< tt),
      h 9 (lit< tt),
    )

pub own-rt : (l m : List ℕ) (a b : ℕ) → Agree rt_size l a m b → rt_peak_from l a ≡ rt_peak_from m b
unfolding rt_peak_from
own-rt l m a b h =
    rw (
      own-apex l m a b (λ j k. h j (omega (arith, k))),
      h 10 (lit< tt),
      h 11 (lit< tt),
      h 12 (lit< tt),
      h 13 (lit< tt),
      h 14 (lit< tt),
      h 15 (lit< tt),
      h 16 (lit< tt),
      h 17 (lit< tt),
      h 18 (lit< tt),
      h 19 (lit< tt),
      h 20 (lit< tt),
      h 21 (lit< tt),
    )

pub own-local : (l m : List ℕ) (a b : ℕ) → Agree local_size l a m b → local_from l a ≡ local_from m b
unfolding local_from
own-local l m a b h =
    rw (
      own-apex l m a b (λ j k. h j (omega (arith, k))),
      h 10 (lit< tt),
      h 11 (lit< tt),
      h 12 (lit< tt),
    )
