use Rattle.std.proofs.Common.{◌≡◌, refl, sym, arith}
use Rattle.std.proofs.lemmas.Result.{err_from_is_err_and}
use Rattle.frames_view.specs.Answer.{Frame, Lent, frame_of, number_for}
use Rattle.frames_view.specs.Lists.{lent_in}
use Rattle.frames_view.proofs.Laws.{Accepted, seen-number, accepted, answered, refused}
use Rattle.frames_view.proofs.build_frame_bin_view.Goals.{In_ok-check}
use Rattle.frames_view.proofs.build_frame_bin_view.Goals as goal

abbrev frame_at : In_ok-check → Frame
frame_at c = let p = c.args.points in frame_of p.tofs.now p.scans.now p.readings.now c.args.scale c.args.global_num_scans c.args.base

abbrev lent_at : In_ok-check → Lent
lent_at c = lent_in c.args.view.now c.args.scratch.now

none : (c : In_ok-check) → number_for (frame_at c) (lent_at c) ≡ 0
none c = sym (seen-number (frame_at c) (lent_at c) 0 _ c.see.ensures (rw c.room_of-room.ensures at c.in_ok-check.ensures))

holds : (c : In_ok-check) → Accepted (frame_at c) (lent_at c)
holds c = accepted (frame_at c) (lent_at c) (none c)

pub returns-in_err-check-clause-answer : goal.returns-in_err-check-clause-answer
returns-in_err-check-clause-answer c =
    let q = c.args.points in
    let frame = frame_of q.tofs.now q.scans.now q.readings.now c.args.scale c.args.global_num_scans c.args.base in
    let lent = lent_in c.args.view.now c.args.scratch.now in
    let p = err_from_is_err_and c.from_residual.result c.from_residual.ensures.1 in
    rw (p.1, p.2) (refused _ frame lent (seen-number frame lent _ _ c.see.ensures (rw c.room_of-room.ensures at c.in_err-check.ensures)))

pub overflow_cast-base : goal.overflow_cast-base
overflow_cast-base c = let a = holds (goal.at.overflow_cast-base c).In_ok-check in record { fits = omega (arith, a.few) }

pub of-s-requires : goal.of-s-requires
of-s-requires c = (holds (goal.at.of-s-requires c).In_ok-check).sound

pub put_view-requires : goal.put_view-requires
put_view-requires c = let a = holds (goal.at.put_view-requires c).In_ok-check in
    (omega (arith, a.few), a.scans, a.readings, a.bins-room, a.offsets-room, a.scans-room, a.readings-room, omega (arith, a.few), a.keys-room, a.order-room, a.spare-room)

pub returns-clause-answer : goal.returns-clause-answer
returns-clause-answer c = let at = (goal.at.returns-clause-answer c).In_ok-check in
    let p = c.put_view in
    answered (frame_at at) (lent_at at) (lent_in p.new.view p.new.scratch) c.args.base _ p.result (none at) refl c.saturating_sub-last.ensures (rw c.of-s.ensures at p.ensures.viewed) p.ensures.keys p.ensures.order p.ensures.spare
