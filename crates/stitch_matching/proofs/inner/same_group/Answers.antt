use mathlib.Core.Path.{◌≡◌, refl}
use mathlib.Core.Bool.{Bool, true, false, ◌||◌}
use borrow.Author.Tests.{eqb-true, eq-eqb}
use lib.Dec.{eqb}
use Rattle.std.specs.Prelude.{Option, Some, None, ℕ, nat_eq}
use Rattle.std.specs.Option.{option_eq}
use Rattle.refusal.proofs.Bools.{both}
use Rattle.row_record.specs.declared.ImPeak1D.{ImPeak1D}
use Rattle.stitch_matching.specs.declared.StitchParams.{StitchParams}
use Rattle.stitch_matching.specs.Matching.{group_of, same_group}
use Rattle.stitch_matching.proofs.inner.same_group.Goals as goal

or-true : (b : Bool) → true ≡ (b || true)
or-true true = refl
or-true false = refl

same-own : (g : Option ℕ) → option_eq nat_eq g g ≡ true
same-own None = refl
same-own (Some n) = eq-eqb n n refl

-- the same words say the same window group
same-words : (p : StitchParams) (a b : ImPeak1D) → a.flags ≡ b.flags → a.window_group ≡ b.window_group → true ≡ same_group p a b
unfolding same_group group_of
same-words p a b e f = rw (e, f, same-own (group_of b)) (or-true p.allow_cross_groups)

pub returns-then-a-b : goal.returns-then-a-b
returns-then-a-b c = let same = both (eqb c.args.a.flags c.args.b.flags) c.if-a-b.true in
    same-words c.args.p c.args.a c.args.b (eqb-true _ _ same.0) (eqb-true _ _ same.1)

pub returns : goal.returns
unfolding same_group group_of
returns c = rw (c.eq.ensures, c.group.ensures, c.group-2.ensures)
