use Rattle.std.proofs.Common.{◌≡◌, length, ap, not, arith}
use borrow.Author.Tests.{not-false}
use Rattle.refusal.proofs.Walk.{by}
use Rattle.row_record.specs.Record.{size}
use Rattle.rt_fallback.proofs.FallbackNumberLaws.{lengths}
use Rattle.rt_fallback.proofs.check.Goals as goal

pub peak_at-requires : goal.peak_at-requires
peak_at-requires c =
    let record-long : length c.args.peak.now ≡ size = (lengths c.args.trace.now c.args.times.now c.args.peak.now (not-false _ (by c.sound_lengths.ensures (ap not c.if-not-sound_lengths.false)))).0 in
    omega (arith, record-long)
