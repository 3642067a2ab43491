-- Laws of the row that is searched.
use mathlib.Core.Path.{◌≡◌, refl, sym, ap, ◌∙◌, subst}
use mathlib.Core.Bool.{Bool, true, false, ◌||◌}
use mathlib.Core.List.{List, ◌++◌}
use Rattle.std.specs.Prelude.{Some}
use Prim.Native.Nat.{ℕ}
use native.Mathlib.Omega.{arith}
use lib.Dec.{leb, eqb}
use lib.ListN.{length, take, drop}
use lib.Seq.{take_at, drop_at}
use lib.Ieee.{Float}
use Rattle.limits.specs.Limits.{max_reading}
use Rattle.numeric.specs.Arith.{𝟎}
use Rattle.numeric.specs.Numeric.{all_in_range}
use Rattle.numeric.specs.Plain.{AllFit}
use Rattle.refusal.proofs.Bools.{clash}
use Rattle.numeric.proofs.Patterns.{all-wider}
use Rattle.row_params.specs.declared.ImDetectParams.{ImDetectParams}
use Rattle.row_smoothing.specs.Smoothing.{tabulate, smoothed_at, smoothed, normalised, sound_weights}
use Rattle.row_smoothing.proofs.Laws.{smoothed-length}
use Rattle.row_smoothing.proofs.InRange.{smoothed-in-range, smoothed-fits}
use Rattle.row_search.specs.Qualifying.{highest_reading, reaches}
use Rattle.row_search.specs.Found.{Searchable}
use Rattle.row_search.specs.Found as rows
use Rattle.row_smoothed.specs.SmoothRow.{is_raw, searched, sound_or_none, samples_in, Handed, Done}

-- ---- the row that is searched
pub as-it-is : (weights z : List Float) → is_raw weights z ≡ true → searched weights z ≡ z
unfolding searched
as-it-is weights z h = rw h

pub as-smoothed : (weights z : List Float) → is_raw weights z ≡ false → searched weights z ≡ smoothed weights z
unfolding searched
as-smoothed weights z h = rw h

-- where those samples stand
pub raw-samples : (weights z y : List Float) → is_raw weights z ≡ true → samples_in weights z y ≡ z
raw-samples weights z y h = rw h

pub smooth-samples : (weights z y : List Float) → is_raw weights z ≡ false → samples_in weights z y ≡ take (length z) y
smooth-samples weights z y h = rw h

pub searched-length : (weights z : List Float) → length (searched weights z) ≡ length z
searched-length weights z = go (is_raw weights z) refl
  where
    go : (b : Bool) → is_raw weights z ≡ b → length (searched weights z) ≡ length z
    go true e = ap length (as-it-is weights z e)
    go false e = ap length (as-smoothed weights z e) ∙ smoothed-length weights z

-- it is one of binary32 values, and in range, where the row is
pub searched-fits : (weights z : List Float) → AllFit z → AllFit (searched weights z)
searched-fits weights z f = go (is_raw weights z) refl
  where
    go : (b : Bool) → is_raw weights z ≡ b → AllFit (searched weights z)
    go true e = subst AllFit (sym (as-it-is weights z e)) f
    go false e = subst AllFit (sym (as-smoothed weights z e)) (smoothed-fits weights z)

pub searched-in-range : (weights z : List Float) → sound_or_none weights ≡ true → AllFit weights → AllFit z → all_in_range max_reading z ≡ true
    → all_in_range max_reading (searched weights z) ≡ true
searched-in-range weights z s w v r = go (eqb (length weights) 0) (leb (length z) 2) refl refl s
  where
    go : (a b : Bool) → eqb (length weights) 0 ≡ a → leb (length z) 2 ≡ b → (a || sound_weights weights) ≡ true → all_in_range max_reading (searched weights z) ≡ true
    go true b e f k = rw (as-it-is weights z (rw e)) r
    go false true e f k = rw (as-it-is weights z (rw (e, f))) r
    go false false e f k = rw (as-smoothed weights z (rw (e, f))) (smoothed-in-range weights z k w v r)

-- the smoothed row at the front of the scratch
pub smoothed-front : (weights u z d scratch : List Float) → u ≡ normalised weights → scratch ≡ tabulate (length z) (smoothed_at u z) ++ drop (length z) d
    → (take (length z) scratch ≡ smoothed weights z) × (drop (length z) scratch ≡ drop (length z) d)
unfolding smoothed
smoothed-front weights u z d scratch e s =
    let k : scratch ≡ smoothed weights z ++ drop (length z) d = s ∙ rw e in (
      ap (take (length z)) k ∙ take_at (smoothed weights z) (drop (length z) d) (length z) (smoothed-length weights z),
      ap (drop (length z)) k ∙ drop_at (smoothed weights z) (drop (length z) d) (length z) (smoothed-length weights z),
    )

-- ---- it can be searched
module _ (p : ImDetectParams) (z weights : List Float) (scratch samples : ℕ) (h : Handed z weights scratch samples) (f : reaches p.min_prom (highest_reading 𝟎 z) ≡ true) where
  pub raw-searchable : Searchable p z z samples
  raw-searchable =
      record { numbers = all-wider 0x4f80_0000 0x7f80_0000 z (omega arith) h.readings; raw = refl; short = h.short; room = h.room; floor = f }

  -- weights are given
  sound : is_raw weights z ≡ false → sound_weights weights ≡ true
  sound g = go (eqb (length weights) 0) g h.weighed
    where
      go : (b : Bool) → (b || leb (length z) 2) ≡ false → (b || sound_weights weights) ≡ true → sound_weights weights ≡ true
      go true a k = clash true refl a
      go false a k = k

  pub smooth-searchable : (y : List Float) → y ≡ smoothed weights z → is_raw weights z ≡ false → AllFit weights → AllFit z
      → Searchable p y z samples
  smooth-searchable y e g w v =
      let l : length y ≡ length z = ap length e ∙ smoothed-length weights z in
      record {
        numbers = rw e (all-wider 0x4f80_0000 0x7f80_0000 (smoothed weights z) (omega arith) (smoothed-in-range weights z (sound g) w v h.readings));
        raw = sym l;
        short = rw l h.short;
        room = rw l h.room;
        floor = f;
      }

-- ---- what a search leaves
pub done-raw : (p : ImDetectParams) (weights z y : List Float) (found : List ℕ) (n : ℕ) → is_raw weights z ≡ true → rows.Done p z z found n
    → Done p weights z y y found (Some n)
done-raw p weights z y found n h d =
    let s = raw-samples weights z y h in record { says = rw s (as-it-is weights z h, d); past = refl }

pub done-smoothed : (p : ImDetectParams) (weights z d y : List Float) (found : List ℕ) (n : ℕ) → is_raw weights z ≡ false
    → (take (length z) y ≡ smoothed weights z) × (drop (length z) y ≡ drop (length z) d) → rows.Done p (take (length z) y) z found n → Done p weights z d y found (Some n)
done-smoothed p weights z d y found n h f k =
    let s = smooth-samples weights z y h in record { says = rw s (as-smoothed weights z h ∙ sym f.0, k); past = f.1 }
