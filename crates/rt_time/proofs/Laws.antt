-- An axis that a fold reads from the front, each time beside the one before it.
use mathlib.Core.Path.{◌≡◌, refl, sym, ◌∙◌}
use mathlib.Core.Bool.{Bool, true, not, ◌&&◌}
use mathlib.Core.List.{List, [], ◌∷◌}
use lib.Ieee.{Float, lt}
use Rattle.std.specs.List.{fold, zip}
use Rattle.std.proofs.Math.Bool.{and-true, and_assoc}
use Rattle.row_params.specs.Params.{all_neighbours}
use Rattle.rt_time.specs.Time.{never_falls, never_falls_from}

falls-fold : (s : Float) (l : List Float) (all : Bool)
    → fold (λ (all : Bool) (p : Float × Float). all && not (lt p.1 p.0)) all (zip (s ∷ l) l) ≡ (all && never_falls_from s l)
unfolding never_falls_from
falls-fold s [] all = sym (and-true all)
falls-fold s (x ∷ l) all = falls-fold x l (all && not (lt x s)) ∙ and_assoc all (not (lt x s)) (never_falls_from x l)

pub falls-all : (t : List Float) → all_neighbours (λ last x. not (lt x last)) t ≡ never_falls t
unfolding never_falls
falls-all [] = refl
falls-all (x ∷ t) = falls-fold x t true
