use mathlib.Core.Path.{◌≡◌, sym, ◌∙◌, ap, subst}
use mathlib.Core.List.{List, ◌++◌, map}
use Prim.Native.Nat.{ℕ, ◌<◌, ◌≤◌, ◌*◌}
use native.Mathlib.Omega.{arith}
use lib.Dec.{lit≤}
use lib.ListN.{length, length-append, get_or, drop, take}
use lib.Seq.{length-take-le, get_or-take, drop_at}
use Rattle.row_record.specs.Record.{size}
use Rattle.stitch_peaks.specs.PeakList.{peaks_of}
use Rattle.stitch_peaks.proofs.PeakListLaws.{peaks-length, peaks-fit}
use Rattle.stitch_matching.specs.declared.StitchParams.{StitchParams}
use Rattle.stitch_keys.specs.declared.KeyRule.TheVariants.{First, Second}
use Rattle.stitch_keys.specs.Keys.{width_of}
use Rattle.stitch_grouping.specs.Grouping.{number_in}
use Rattle.stitch_grouping.proofs.Fits.{groups-fit}
use Rattle.stitch_passes.specs.Stitching.{first_groups, first_peaks, second_groups, stitched}
use Rattle.stitch_passes.specs.Steps.{Passed}
use Rattle.stitch_passes.proofs.PassLaws.{stitched-length, column-rest}
use Rattle.stitch_passes.proofs.Laws.{by-identity, later, fewer, as_many, made-rest, second-read, first-number, owned}
use Rattle.stitch_passes.proofs.inner.stitch_peaks.Goals.{After-pass-m, After-pass_over-found}
use Rattle.stitch_passes.proofs.inner.stitch_peaks.Goals as goal

-- the identity is the last word of a key
seven : (params : StitchParams) → 7 ≤ width_of (First params)
unfolding width_of
seven params = lit≤ tt

-- the first pass, over the first n peaks, makes no more than n
module _ (w : After-pass-m) where
  front : length (take w.args.records.count w.args.lists.now.order.now) ≡ w.args.records.count
  front = length-take-le w.args.records.count w.args.lists.now.order.now w.requires.3

  first : Passed (First w.args.params) w.args.params (peaks_of w.args.records.words.now w.args.records.count) w.args.lists.now.owners.now w.args.lists.now.keys.now w.args.lists.now.merged.now w.pass-m.result w.pass-m.new.column w.pass-m.new.keys w.pass-m.new.out
  first = rw front at w.pass-m.ensures

  few : w.pass-m.result ≤ w.args.records.count
  few = omega (arith, fewer w.args.params (peaks_of w.args.records.words.now w.args.records.count) w.pass-m.result first.counted, peaks-length w.args.records.words.now w.args.records.count)

  ordered : length w.pass-m.new.order ≡ w.args.records.count
  ordered = w.pass-m.auto.order ∙ front

pub pass-m-requires : goal.pass-m-requires
pass-m-requires c = let e = length-take-le c.args.records.count c.args.lists.now.order.now c.requires.3 in
    rw e (c.args.records.fit, c.requires.2, c.requires.5, c.requires.6, c.requires.0, seven c.args.params, c.requires.7 ∙ by-identity c.args.params (peaks_of c.args.records.words.now c.args.records.count))

-- the second pass is over what the first has made
module _ (w : After-pass_over-found) where
  second : Passed Second w.args.params (first_peaks w.args.params (peaks_of w.args.records.words.now w.args.records.count)) w.args.lists.now.groups.now w.pass-m.new.keys w.args.lists.now.out.now w.pass_over-found.result w.pass_over-found.new.column w.pass_over-found.new.keys w.pass_over-found.new.out
  second =
      let a = w.pass-m in
      let ps = peaks_of w.args.records.words.now w.args.records.count in
      let f : Passed (First w.args.params) w.args.params ps w.args.lists.now.owners.now w.args.lists.now.keys.now w.args.lists.now.merged.now a.result a.new.column a.new.keys a.new.out = rw (length-take-le w.args.records.count w.args.lists.now.order.now w.requires.3) at a.ensures in
      let few : a.result ≤ w.args.records.count = omega (arith, fewer w.args.params ps a.result f.counted, peaks-length w.args.records.words.now w.args.records.count) in
      let long : length a.new.order ≡ w.args.records.count = a.auto.order ∙ length-take-le w.args.records.count w.args.lists.now.order.now w.requires.3 in
      let m : length (take a.result (a.new.order ++ drop w.args.records.count w.args.lists.now.order.now)) ≡ a.result = length-take-le a.result (a.new.order ++ drop w.args.records.count w.args.lists.now.order.now) (simp length-append (omega (arith, few, long))) in
      let fit = groups-fit ps (first_groups w.args.params ps) (peaks-fit w.args.records.words.now w.args.records.count) in
      let over : Passed Second w.args.params (peaks_of a.new.out (length (take a.result (a.new.order ++ drop w.args.records.count w.args.lists.now.order.now))))
      w.args.lists.now.groups.now a.new.keys w.args.lists.now.out.now w.pass_over-found.result w.pass_over-found.new.column w.pass_over-found.new.keys w.pass_over-found.new.out
      = w.pass_over-found.ensures in
      rw (m, second-read w.args.params ps a.result f.counted a.new.out (drop (a.result * size) w.args.lists.now.merged.now) f.records fit) at over

pub slice_bounds-pass_over-end : goal.slice_bounds-pass_over-end
slice_bounds-pass_over-end c = let w = (goal.at.slice_bounds-pass_over-end c).After-pass-m in
    simp length-append (omega (arith, few w, ordered w))

pub slice_bounds-pass_over-end-2 : goal.slice_bounds-pass_over-end-2
slice_bounds-pass_over-end-2 c = let w = (goal.at.slice_bounds-pass_over-end-2 c).After-pass-m in
    sym (length-take-le c.pass-m.result (c.pass-m.new.order ++ drop c.args.records.count c.args.lists.now.order.now) (simp length-append (omega (arith, few w, ordered w))))

pub pass_over-found-requires : goal.pass_over-found-requires
pass_over-found-requires c = let w = (goal.at.pass_over-found-requires c).After-pass-m in
    let f = few w in
    let m : length (take c.pass-m.result (c.pass-m.new.order ++ drop c.args.records.count c.args.lists.now.order.now)) ≡ c.pass-m.result = length-take-le c.pass-m.result (c.pass-m.new.order ++ drop c.args.records.count c.args.lists.now.order.now) (simp length-append (omega (arith, f, ordered w))) in (
      omega (arith, m, f, c.pass-m.auto.out, c.requires.6),
      omega (arith, m, f, c.requires.4),
      omega (arith, m, f, c.pass-m.auto.keys, c.requires.5),
      omega (arith, m, f, c.requires.1),
      omega (arith, m, f, c.requires.0),
    )

pub hand_on-requires : goal.hand_on-requires
hand_on-requires c = let w = (goal.at.hand_on-requires c).After-pass-m in
    let a = c.pass-m in
    let ps = peaks_of c.args.records.words.now c.args.records.count in
    let l = peaks-length c.args.records.words.now c.args.records.count in
    let number = first-number c.args.params ps a.result (first w).counted a.new.column (drop (length ps) c.args.lists.now.owners.now) (first w).numbers in
    let long : length (take c.args.records.count a.new.column) ≡ c.args.records.count = length-take-le c.args.records.count a.new.column (omega (arith, a.auto.column, c.requires.2)) in
    λ k h.
    let inside : k < c.args.records.count = omega (arith, h, long) in
    omega (arith, get_or-take c.args.records.count a.new.column k 0 inside, number k (omega (arith, inside, l)), few w, c.pass_over-found.auto.column, c.requires.4)

pub returns-clause-stitched : goal.returns-clause-stitched
unfolding stitched
returns-clause-stitched c =
    let w = (goal.at.returns-clause-stitched c).After-pass_over-found in
    let v = (goal.at.returns-clause-stitched c).After-pass-m in
    let f = first v in
    let s = second w in
    let a = c.pass-m in
    let ps = peaks_of c.args.records.words.now c.args.records.count in
    let back = drop a.result c.args.lists.now.groups.now in
    let numbers = rw (as_many c.args.params ps a.result f.counted) at s.numbers in
    let firsts = a.new.column in
    let seconds = c.pass_over-found.new.column in
    record {
      counted = s.counted ∙ sym (stitched-length c.args.params ps);
      records = s.records;
      column =
          subst (λ (j : ℕ). c.hand_on.new.owners ++ drop c.args.records.count firsts ≡ map (λ k. get_or seconds k 0) (take j firsts) ++ drop j firsts) (sym (peaks-length c.args.records.words.now c.args.records.count)) (ap (λ (x : List ℕ). x ++ drop c.args.records.count firsts) c.hand_on.ensures)
          ∙ owned c.args.params ps a.result f.counted firsts (drop (length ps) c.args.lists.now.owners.now) f.numbers seconds back numbers;
    }

pub returns-clause-order : goal.returns-clause-order
returns-clause-order c =
    let w = (goal.at.returns-clause-order c).After-pass-m in
    let lent = c.pass-m.new.order ++ drop c.args.records.count c.args.lists.now.order.now in
    let m : length (take c.pass-m.result lent) ≡ c.pass-m.result = length-take-le c.pass-m.result lent (simp length-append (omega (arith, few w, ordered w))) in
    later (c.pass_over-found.new.order ++ drop c.pass-m.result lent) lent c.pass-m.result c.args.records.count (few w) (drop_at c.pass_over-found.new.order (drop c.pass-m.result lent) c.pass-m.result (c.pass_over-found.auto.order ∙ m))
    ∙ drop_at c.pass-m.new.order (drop c.args.records.count c.args.lists.now.order.now) c.args.records.count (ordered w)

pub returns-clause-groups : goal.returns-clause-groups
returns-clause-groups c =
    let w = (goal.at.returns-clause-groups c).After-pass_over-found in
    let v = (goal.at.returns-clause-groups c).After-pass-m in
    let ps = peaks_of c.args.records.words.now c.args.records.count in
    let m = c.pass-m.result in
    let back = drop m c.args.lists.now.groups.now in
    let numbers = rw (as_many c.args.params ps m (first v).counted) at (second w).numbers in
    later c.pass_over-found.new.column c.args.lists.now.groups.now m c.args.records.count (few v) (ap (drop m) numbers ∙ column-rest (number_in (second_groups c.args.params ps)) m back)

pub returns-clause-keys : goal.returns-clause-keys
returns-clause-keys c =
    let w = (goal.at.returns-clause-keys c).After-pass_over-found in
    let v = (goal.at.returns-clause-keys c).After-pass-m in
    let ps = peaks_of c.args.records.words.now c.args.records.count in
    let m = c.pass-m.result in
    let rest = rw (as_many c.args.params ps m (first v).counted) at (second w).rest in
    later c.pass_over-found.new.keys c.pass-m.new.keys (m * size) (c.args.records.count * size) (omega (arith, few v)) rest ∙ rw (peaks-length c.args.records.words.now c.args.records.count) at (first v).rest

pub returns-clause-merged : goal.returns-clause-merged
returns-clause-merged c =
    let w = (goal.at.returns-clause-merged c).After-pass-m in
    let m = c.pass-m.result in
    later c.pass-m.new.out c.args.lists.now.merged.now (m * size) (c.args.records.count * size) (omega (arith, few w)) (made-rest c.args.params (peaks_of c.args.records.words.now c.args.records.count) m (first w).counted c.pass-m.new.out (drop (m * size) c.args.lists.now.merged.now) (first w).records)
