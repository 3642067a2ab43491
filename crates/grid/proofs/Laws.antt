-- Laws of a grid's number and answer.
use mathlib.Core.Path.{◌≡◌, refl, sym, ap, ◌∙◌}
use mathlib.Core.Bool.{Bool, true, false, ◌&&◌, ◌||◌}
use mathlib.Core.List.{List}
use Prim.Native.Nat.{ℕ, ◌+◌, ◌-◌, ◌*◌, ◌/◌, ◌%◌, ◌≤◌, ◌<◌}
use native.Mathlib.Nat.{mul-le-mul, sub-zero, mul-div_cancel, mul-mod_left, div-add-mod'}
use native.Mathlib.Omega.{arith}
use borrow.Author.Tests.{eq-eqb, ne_eqb, eqb-true, eqb-false, ltb-false, leb-true, not-false}
use lib.Dec.{ltb, eqb}
use lib.ListN.{length, drop}
use lib.Ieee.{Float}
use Rattle.refusal.specs.Refusal.{first_of}
use Rattle.std.specs.Prelude.{Ok, Err}
use Rattle.refusal.specs.declared.Refusal.{Refusal}
use Rattle.refusal.specs.Numbered.{number_of}
use Rattle.refusal.proofs.NumberedLaws.{says-ok, says-err, number_of-positive}
use Rattle.refusal.proofs.Bools.{clash, both, all4, all5, neither}
use Rattle.row_params.specs.Params.{most_peaks, sound_params, all_up_to}
use Rattle.row.specs.Written.{as_words}
use Rattle.grid_rows.specs.Grid.{Grid, count_to}
use Rattle.grid.specs.GridNumber.{seen_in, checks_of, grid_number}
use Rattle.grid.proofs.GridNumberLaws.{none-for}
use Rattle.grid.specs.declared.numbers.Seen.{Seen}
use Rattle.grid_rows.specs.Steps.{Ready, Done}
use Rattle.grid.specs.Answer.{Answered, number_for}

-- ---- the checks

-- a length that is rows times columns, tested without a product
pub product_is : (l rows cols : ℕ) → 0 < cols → (eqb (l % cols) 0 && eqb (l / cols) rows) ≡ eqb l (rows * cols)
product_is l rows cols h = go (eqb (l % cols) 0) (eqb (l / cols) rows) refl refl
  where
    whole : l / cols * cols + l % cols ≡ l
    whole = div-add-mod' l cols

    go : (a b : Bool) → eqb (l % cols) 0 ≡ a → eqb (l / cols) rows ≡ b → (a && b) ≡ eqb l (rows * cols)
    go true true e f =
        let p : l / cols * cols ≡ rows * cols = ap (λ (k : ℕ). k * cols) (eqb-true (l / cols) rows f) in
        let q : l % cols ≡ 0 = eqb-true (l % cols) 0 e in
        sym (eq-eqb l (rows * cols) (omega (arith, whole)))
    go true false e f =
        sym (ne_eqb l (rows * cols) (λ k. eqb-false (l / cols) rows f (ap (λ (i : ℕ). i / cols) k ∙ mul-div_cancel rows h)))
    go false b e f = sym (ne_eqb l (rows * cols) (λ k. eqb-false (l % cols) 0 e (ap (λ (i : ℕ). i % cols) k ∙ mul-mod_left rows cols)))

-- sizes that number 2 lets pass, and the peaks that they allow
pub sizes-held : (rows cols : ℕ) → (ltb 4194304 rows || ltb 16384 cols) ≡ false → (rows ≤ 4194304) × (cols ≤ 16384) × (rows * most_peaks cols ≤ 34359738368)
sizes-held rows cols h =
    let k = neither (ltb 4194304 rows) h in
    let p = ltb-false 4194304 rows k.0 in
    let q = ltb-false 16384 cols k.1 in
    let m : most_peaks cols ≤ 8192 = omega arith in
    (p, q, (let x : rows * most_peaks cols ≤ 4194304 * 8192 = mul-le-mul p m in omega arith))

-- a table of n values or of none is no longer than n
short-table : (l n : ℕ) → (eqb l 0 || eqb l n) ≡ true → l ≤ n
short-table l n h = go (eqb l 0) (eqb l n) refl refl h
  where
    go : (a b : Bool) → eqb l 0 ≡ a → eqb l n ≡ b → (a || b) ≡ true → l ≤ n
    go true b e f k = omega (arith, eqb-true l 0 e)
    go false true e f k = omega (arith, eqb-true l n f)
    go false false e f k = clash false k refl

-- the number of what was seen
pub seen-number : (g : Grid) (rows room space n : ℕ) (s : Seen) → s ≡ seen_in g.used g.scans g.mobility g.weights
    → n ≡ first_of (checks_of s rows g.cols g.scale g.bounds g.params g.first room space) → n ≡ grid_number g rows room space
unfolding grid_number
seen-number g rows room space n s e h = rw e at h

-- a grid that no number refuses
pub record Accepted (g : Grid) (rows room space : ℕ) : Type 0 where
  pub ready : Ready g 0 rows room
  pub narrow : g.cols ≤ 16384
  pub long : g.cols ≤ space
  pub table : length g.mobility ≤ g.cols

pub accepted : (g : Grid) (rows room space : ℕ) → grid_number g rows room space ≡ 0 → Accepted g rows room space
accepted g rows room space e =
    let l = all4 (eqb (length g.used) (rows * g.cols)) (not-false _ (none-for g rows room space 1 e)) in
    let v = all5 (sound_params g.params) (not-false _ (none-for g rows room space 4 e)) in
    let a = both (all_up_to 65535 g.scans) (not-false _ (none-for g rows room space 5 e)) in
    let s = sizes-held rows g.cols (none-for g rows room space 2 e) in
    record {
      ready =
          record {
            readings = omega (arith, eqb-true (length g.used) (rows * g.cols) l.0);
            ranged = not-false _ (none-for g rows room space 3 e);
            scans = eqb-true (length g.scans) g.cols l.1;
            short = omega (arith, s.1);
            scale = record { step = v.3; ends = a.1; agree = not-false _ (none-for g rows room space 22 e) };
            bins = omega (arith, eqb-true rows g.scale.num_bins l.3);
            weighed = not-false _ (none-for g rows room space 6 e);
            words = rw sub-zero (ltb-false _ _ (none-for g rows room space 20 e));
            ids = rw sub-zero (leb-true _ _ v.4);
          };
      narrow = s.1;
      long = ltb-false space g.cols (none-for g rows room space 21 e);
      table = short-table (length g.mobility) g.cols l.2;
    }

-- ---- the answer

-- what is left of all rows of a grid with number 0, and of a grid with another number
pub answered : (g : Grid) (rows : ℕ) (d out : List ℕ) (s scratch : List Float) (n : ℕ) → number_for g rows d s ≡ 0 → length scratch ≡ length s
    → Done as_words g 0 rows d out n → drop g.cols scratch ≡ drop g.cols s → Answered g rows d out s scratch (Ok n)
answered g rows d out s scratch n e l h k =
    let z : rows - 0 ≡ rows = omega arith in
    let c : n ≡ count_to g rows = h.count ∙ rw z in
    record { answered = says-ok (count_to g rows) (sym e) c; words = rw e (h.words ∙ rw (z, c)); length-kept = l; past = rw e k }

pub refused : (refusal : Refusal) (g : Grid) (rows : ℕ) (d : List ℕ) (s : List Float) → number_of refusal ≡ number_for g rows d s
    → Answered g rows d d s s (Err refusal)
refused refusal g rows d s i =
    let e : eqb (number_for g rows d s) 0 ≡ false = ap (λ (k : ℕ). eqb k 0) (sym i) ∙ ne_eqb (number_of refusal) 0 (number_of-positive refusal) in
    record { answered = says-err refusal (count_to g rows) i; words = rw e; length-kept = refl; past = refl }
