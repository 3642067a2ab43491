use Rattle.std.proofs.Common.{rules, sym, ◌∙◌}
use borrow.Author.Tests.{le-ltb, le-leb, lt-leb}
use Rattle.refusal.specs.Refusal.{first_of}
use Rattle.limits.specs.Limits.{max_tof}
use Rattle.tof_scale.specs.TofAnswers.{build_answer, build_number}
use Rattle.tof_scale.proofs.TofLaws.{step-above, up-to-highest}
use Rattle.tof_scale.proofs.TofScale.build_from_frames.Goals as goal

pub returns-then-e-gt-MAX_TOF : goal.returns-then-e-gt-MAX_TOF
unfolding build_answer build_number first_of
returns-then-e-gt-MAX_TOF c =
    rw (
      le-ltb _ _ c.if-tofs-gt-MAX_POINTS.false,
      ← c.sound_step.ensures,
      c.if-not-sound_step.false,
      up-to-highest max_tof c.args.tofs.now,
      lt-leb _ _ (rw c.ends_of-e.ensures at c.if-e-gt-MAX_TOF.true),
    )

pub then-requires : goal.then-requires
then-requires c less = let u = c.if-e-gt-MAX_TOF.false in
    let low = step-above _ (sym c.sound_step.ensures ∙ c.if-not-sound_step.false) in
    search (rules, low, u, less)

pub returns : goal.returns
unfolding build_answer build_number first_of
returns c =
    rw (
      le-ltb _ _ c.if-tofs-gt-MAX_POINTS.false,
      ← c.sound_step.ensures,
      c.if-not-sound_step.false,
      up-to-highest max_tof c.args.tofs.now,
      le-leb _ _ (rw c.ends_of-e.ensures at c.if-e-gt-MAX_TOF.false),
    ) (let e = sym c.ends_of-e.ensures in search (rules, e))
