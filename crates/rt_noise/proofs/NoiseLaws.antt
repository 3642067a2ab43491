-- What the number of a noise says, and what noise and time step are in the order of floats.
use mathlib.Core.Path.{◌≡◌, refl, sym, ap, subst}
use mathlib.Core.Bool.{true, false}
use mathlib.Core.List.{List}
use Prim.Native.Nat.{ℕ, ◌/◌, ◌-◌, ◌≤◌, ◌<◌}
use native.Mathlib.Omega.{arith}
use borrow.Author.Tests.{le-ltb, not-false}
use lib.Dec.{T}
use lib.ListN.{length, length-map}
use lib.Ieee.{Float}
use lib.Ieee.Scale.{finite}
use Rattle.refusal.specs.Refusal.{first_of, ascending_from}
use Rattle.refusal.proofs.RefusalLaws.{lowest_by, none-by, applies_for}
use Rattle.limits.specs.Limits.{max_height, max_seconds}
use Rattle.numeric.specs.Arith.{at, ◌⊖◌}
use Rattle.numeric.specs.Numeric.{abs_f, all_in_range}
use Rattle.numeric.specs.Plain.{AllPlain}
use Rattle.numeric.proofs.Patterns.{all_plain, range_at, below_inf}
use Rattle.sort_rank.specs.Rank.{rank_f, distances, steps}
use Rattle.sort_rank.specs.RankLaws.{AllFinite}
use Rattle.sort_rank.proofs.Lists.{steps-length}
use Rattle.sort_rank.proofs.Floats.{rank-float, rank-reading, distances-plain, steps-plain}
use Rattle.rt_noise.specs.Noise.{middle, noise_f, dt_f, noise_checks, noise_number}
use Rattle.rt_noise.specs.NoiseLaws.{NoiseLowest, Middle, NoiseIs, StepIs}

pub number_is : (xs : List Float) → noise_number xs ≡ first_of (noise_checks xs)
unfolding noise_number
number_is xs = refl

module _ (xs : List Float) where
  ascending : ascending_from 0 (noise_checks xs) ≡ true
  unfolding ascending_from
  ascending = refl

  -- where it is 0, the check with the number n does not apply
  pub none-for : (n : ℕ) → noise_number xs ≡ 0 → applies_for n (noise_checks xs) ≡ false
  none-for n z = none-by n (noise_checks xs) (number_is xs) ascending z

-- it is the lowest that applies
pub number-lowest : NoiseLowest
number-lowest xs h = lowest_by (noise_checks xs) (number_is xs) (ascending xs) h

-- ---- the middle one, by its rank
pub middle_reading : (xs : List Float) → rank_f xs (length xs / 2) ≡ middle xs
unfolding middle
middle_reading xs = refl

pub middle_distance : (m : Float) (xs : List Float) → rank_f (distances m xs) (length xs / 2) ≡ middle (distances m xs)
unfolding middle
middle_distance m xs = ap (λ (n : ℕ). rank_f (distances m xs) (n / 2)) (sym (length-map xs (λ x. abs_f (x ⊖ m))))

pub middle_step : (times : List Float) → rank_f (steps times) ((length times - 1) / 2) ≡ middle (steps times)
unfolding middle
middle_step times = ap (λ (n : ℕ). rank_f (steps times) (n / 2)) (sym (steps-length times))

middle-is : (xs : List Float) → 1 ≤ length xs → AllPlain xs → Middle xs (middle xs)
unfolding middle
middle-is xs h a = rank-float xs (length xs / 2) (omega arith) a

all-finite : (limit : ℕ) (xs : List Float) → limit < 0x7f80_0000 → all_in_range limit xs ≡ true → AllFinite xs
all-finite limit xs l h i k = below_inf limit (at xs i) l (range_at limit xs i h k)

middle-finite : (xs : List Float) → 1 ≤ length xs → AllPlain xs → AllFinite xs → T (finite (middle xs))
unfolding middle
middle-finite xs h a f = let r = rank-reading xs (length xs / 2) (omega arith) a in subst (λ (x : Float). T (finite x)) r.2 (f r.0 r.1)

pub noise-is : NoiseIs
unfolding noise_f
noise-is xs fit z h =
    let r = not-false (all_in_range max_height xs) (none-for xs 3 z) in
    let a = all_plain max_height xs (omega arith) r fit in
    let f = all-finite max_height xs (omega arith) r in
    let m = middle xs in
    let n = length-map xs (λ x. abs_f (x ⊖ m)) in
    record {
      median = m;
      is-median = middle-is xs (omega arith) a;
      deviation = middle (distances m xs);
      is-deviation = middle-is (distances m xs) (omega arith) (distances-plain m xs (middle-finite xs (omega arith) a f) f);
      scaled = rw (le-ltb (length xs) 3 h);
    }

pub step_is : StepIs
unfolding dt_f
step_is times fit r h =
    let n = steps-length times in
    record {
      step = middle (steps times);
      is-step = middle-is (steps times) (omega arith) (steps-plain times (all-finite max_seconds times (omega arith) r));
      held = rw (le-ltb (length times) 2 h);
    }
