-- What the turns of a row and the bases of its apexes make: a search's answer.
use mathlib.Core.Path.{◌≡◌, ap, ◌∙◌}
use mathlib.Core.List.{List}
use Prim.Native.Nat.{ℕ, zero, suc, ◌+◌, ◌*◌, ◌≤◌, ◌<◌}
use native.Mathlib.Omega.{arith}
use lib.ListN.{length}
use lib.Ieee.{Float, binary32, of_bits}
use Rattle.numeric.specs.Plain.{AllPlain}
use Rattle.row_turns.specs.Turns.{turn, Turning, Turned}
use Rattle.row_turns.proofs.Apexes.{next-valley, apex-in}
use Rattle.row_baselines.specs.Lows.{mark_at, Based}
use Rattle.row_baselines.specs.Searched.{Room, Searched}
use Rattle.row_baselines.proofs.Jump.{base-float}

-- the turns ascend, so that there is a sample for each
spread : {y : List Float} {turns : List ℕ} {m : ℕ} → Turning y turns m → (k : ℕ) → k ≤ m → 2 * k ≤ turn turns (2 * k)
spread t zero h = omega arith
spread {y} {turns} {m} t (suc k) h =
    let e : k + 1 ≡ suc k = omega arith in
    omega (arith, spread t k (omega arith), t.climbs k (omega arith), t.drops k (omega arith), next-valley turns k, ap (λ (j : ℕ). turn turns (2 * j)) e)

-- m apexes leave room for their valleys
pub few : {y : List Float} {turns : List ℕ} (m : ℕ) → Turned y turns m → (0 < m) → 2 * m < length y
few m d h = let t = d.shape h in omega (arith, spread t m (omega arith), t.inside)

-- the lists that a search is given are long enough for them
pub few-bases : {y : List Float} {turns old bases stack : List ℕ} (m : ℕ) → Room y old bases stack → Turned y turns m → (m ≤ length bases) × (2 * m ≤ length stack) × (m ≤ 16777216)
few-bases zero r d = (omega arith, omega arith, omega arith)
few-bases (suc k) r d = let f = few (suc k) d (omega arith) in (omega (arith, r.bases-long), omega (arith, r.stack-long), omega (arith, r.short))

pub searched : {y : List Float} {turns bases : List ℕ} (m : ℕ) → AllPlain y → Turned y turns m → m ≤ length bases → Based (mark_at y turns) m bases → Searched y turns bases m
searched {y} {turns} {bases} m p d b f = record {
  are = d.are;
  turns-long = long m d;
  bases-long = b;
  low = λ k h. let t = d.shape (omega arith) in omega (arith, t.climbs k h);
  high = λ k h. apex-in (d.shape (omega arith)) k h;
  rise = λ k h.
      let t = d.shape (omega arith) in
      let e : 2 * (k + 1) + 1 ≡ 2 * k + 3 = omega arith in
      omega (arith, t.drops k (omega arith), next-valley turns k, t.climbs (k + 1) h, ap (turn turns) e);
  bases-are = λ k h. ap (of_bits binary32) (f k h) ∙ base-float p (d.shape (omega arith)) k h;
}
  where
    long : (m : ℕ) → Turned y turns m → 2 * m ≤ length turns
    long zero d = omega arith
    long (suc k) d = omega (arith, (d.shape (omega arith)).room)
