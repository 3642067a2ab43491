use Rattle.row_record.specs.Record.{size, peak_from, with_peak, sound}
use Rattle.row_record.specs.RoundTrip.{FloatsFit}
use Rattle.row_record.proofs.RoundTrip.{got-back}
use mathlib.Core.Path.{◌≡◌, sym, ap, ◌∙◌, subst}
use mathlib.Core.Bool.{Bool, true}
use mathlib.Core.List.{List}
use Prim.Native.Nat.{ℕ}
use lib.Dec.{T}
use lib.ListN.{replicate}
use native.Mathlib.Omega.{arith}
use Rattle.row_record.proofs.inner.is_sound.Goals.{Start}
use Rattle.row_record.proofs.inner.is_sound.Goals as goal

fit : {b : Bool} → b ≡ true → T b
fit e = subst T (sym e) tt

-- the peak's floats are of binary32, as every f32 is; they stand from the seventeenth field on
held : (c : Start) → FloatsFit c.args.p
held c =
    let floats = c.well_formed.0.1.1.1.1.1.1.1.1.1.1.1.1.1.1.1.1.1.1 in
    record {
      sigma = fit floats.0.1;
      mobility = fit floats.1.0.1;
      smoothed = fit floats.1.1.0.1;
      raw = fit floats.1.1.1.0.1;
      prominence = fit floats.1.1.1.1.0.1;
      left = fit floats.1.1.1.1.1.0.1;
      right = fit floats.1.1.1.1.1.1.0.1;
      area = fit floats.1.1.1.1.1.1.1.1.0.1;
      subscan = fit floats.1.1.1.1.1.1.1.1.1.0.1;
    }

pub returns : goal.returns
unfolding with_peak
returns c = c.sound_words.ensures
    ∙ ap sound (ap (λ (l : List ℕ). peak_from l 0) c.words_of.ensures ∙ got-back (replicate size 0) 0 c.args.p (omega arith) (held (goal.at.returns c).Start))
