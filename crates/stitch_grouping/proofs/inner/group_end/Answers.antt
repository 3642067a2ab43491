use mathlib.Core.Path.{◌≡◌, refl, sym, ◌∙◌, ap}
use mathlib.Core.Bool.{Bool, false, ◌&&◌}
use Prim.Native.Nat.{◌<◌, ◌-◌}
use native.Mathlib.Omega.{arith}
use lib.ListN.{length, get_or}
use Rattle.stitch_peaks.specs.PeakList.{nth}
use Rattle.stitch_keys.specs.Keys.{is_same_bucket}
use Rattle.stitch_grouping.specs.Grouping.{bucket_by, peaks_at}
use Rattle.stitch_grouping.proofs.Laws.{begun_first, begun_more, cut-before, cut-end, follows-told, told-join}
use Rattle.stitch_grouping.proofs.inner.group_end.Goals as goal
use Rattle.std.proofs.Math.Bool.{and-false}

pub loop-k-init : goal.loop-k-init
loop-k-init c = let i = c.args.i in
    λ ps order e g.
    let l : i < length order = omega arith in
    let same = c.peak-first.ensures ∙ g i l in
    begun_first c.args.rule c.args.params ps order i c.bucket_by-bucket.result c.of_one-spans.result l (rw same at c.bucket_by-bucket.ensures) (rw same at c.of_one-spans.ensures)

pub returns-then-not-is_of_bucket : goal.returns-then-not-is_of_bucket
returns-then-not-is_of_bucket c = (
  omega (arith, c.loop-k.auto.k),
  omega (arith, c.loop-k.auto.k),
  λ ps order e g.
      let w = c.loop-k.invariant ps order e g in
      let p = c.peak.ensures ∙ g c.loop-k.k (omega arith) in
      let no : false ≡ is_same_bucket c.bucket_by-bucket.result (bucket_by c.args.rule (nth ps (get_or order c.loop-k.k 0))) =
      sym (c.if-not-is_of_bucket.true) ∙ rw p at (c.is_of_bucket.ensures (nth ps (get_or order (c.loop-k.k - 1) 0)) w.bucket) in
      cut-before c.args.rule c.args.params ps order c.args.i c.loop-k.k c.bucket_by-bucket.result c.loop-k.spans w (omega (arith, c.loop-k.auto.k)) (omega arith)
      (follows-told c.args.rule c.args.params (nth ps (get_or order (c.loop-k.k - 1) 0)) (peaks_at ps w.older) (nth ps (get_or order c.loop-k.k 0)) c.bucket_by-bucket.result false _ w.bucket no refl),
)

pub returns-then-not-joins_at : goal.returns-then-not-joins_at
returns-then-not-joins_at c = let k = c.loop-k.k in (
  omega (arith, c.loop-k.auto.k),
  omega (arith, c.loop-k.auto.k),
  λ ps order e g.
      let w = c.loop-k.invariant ps order e g in
      let last = g (k - 1) (omega (arith, c.loop-k.auto.k)) in
      let p = g k (omega arith) in
      let yes = rw (c.peak.ensures ∙ p) at (c.is_of_bucket.ensures (nth ps (get_or order (k - 1) 0)) w.bucket) in
      let no = told-join c.args.params c.loop-k.spans (peaks_at ps w.older) last p c.joins_at.ensures w.spans in
      cut-before c.args.rule c.args.params ps order c.args.i k c.bucket_by-bucket.result c.loop-k.spans w (omega (arith, c.loop-k.auto.k)) (omega arith)
      (follows-told c.args.rule c.args.params (nth ps (get_or order (k - 1) 0)) (peaks_at ps w.older) (nth ps (get_or order k 0)) c.bucket_by-bucket.result c.is_of_bucket.result c.joins_at.result w.bucket yes no
      ∙ ap (λ (x : Bool). c.is_of_bucket.result && x) (c.if-not-joins_at.true) ∙ and-false c.is_of_bucket.result),
)

pub loop-k-preserved : goal.loop-k-preserved
loop-k-preserved c = let k = c.loop-k.k in
    λ ps order e g.
    let w = c.loop-k.invariant ps order e g in
    let last = g (k - 1) (omega (arith, c.loop-k.auto.k)) in
    let p = g k (omega arith) in
    let yes = rw (c.peak.ensures ∙ p) at (c.is_of_bucket.ensures (nth ps (get_or order (k - 1) 0)) w.bucket) in
    let too = told-join c.args.params c.loop-k.spans (peaks_at ps w.older) last p c.joins_at.ensures w.spans in
    begun_more c.args.rule c.args.params ps order c.args.i k c.bucket_by-bucket.result c.loop-k.spans w (omega (arith, c.loop-k.auto.k)) (omega arith) c.widened-spans.result
    (follows-told c.args.rule c.args.params (nth ps (get_or order (k - 1) 0)) (peaks_at ps w.older) (nth ps (get_or order k 0)) c.bucket_by-bucket.result c.is_of_bucket.result c.joins_at.result w.bucket yes too
    ∙ rw (c.if-not-is_of_bucket.false, c.if-not-joins_at.false))
    (rw (c.peak-in-loop-k.ensures ∙ p) at (c.widened-spans.ensures (nth ps (get_or order (k - 1) 0)) (peaks_at ps w.older) w.spans))

pub returns : goal.returns
returns c = let all : c.loop-k.k ≡ c.args.sorted.count = omega (arith, c.loop-k.auto.k) in (
  omega arith,
  omega arith,
  λ ps order e g.
      rw all at (cut-end c.args.rule c.args.params ps order c.args.i c.loop-k.k c.bucket_by-bucket.result c.loop-k.spans (c.loop-k.invariant ps order e g) (omega arith)),
)
