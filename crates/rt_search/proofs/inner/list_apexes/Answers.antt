use Rattle.std.proofs.Common.{◌<◌, sym, ◌∙◌, ap, length, get_or, arith}
use lib.Seq.{length-take-le}
use lib.ListN.{length-append, length-drop}
use Rattle.sort_digits.specs.Sorted.{row, up_to, sorted_by}
use Rattle.sort_digits.proofs.SortedLaws.{sort-length}
use Rattle.rt_choice.specs.Chosen.{passing}
use Rattle.rt_listing.specs.Places.{wide_at, by_time, chosen_places, with_shares, listed_places}
use Rattle.rt_listing.proofs.Laws.{below_all, some_below, some-few, chosen-places, chosen-places-few, shares-places, times-sorted}
use Rattle.rt_search.proofs.inner.list_apexes.Goals as goal
use Rattle.numeric.proofs.Lists.{filled-front}

pub choose_places-c-requires : goal.choose_places-c-requires
choose_places-c-requires c = let s = c.args in
    let y = s.trace.smoothed.now in
    let t = s.trace.times.now in
    let m = s.apexes.count in
    let ready = c.requires.ready in
    let room = c.requires.room in
    let test = wide_at s.apexes.found.now t (length y) s.asked.min_width in
    let ws = passing test (up_to m) in
    let w = c.keep_wide-k in
    let few = some-few test m in
    let most = c.requires.apexes.2 in
    rw (filled-front ws s.order.now w.new.out w.result w.ensures.count w.ensures.front) (
      record {
        inside = c.requires.apexes.0;
        short = ready.short;
        times-short = omega (arith, ready.short, ready.times);
        few = few;
        turns-long = omega (arith, most, room.turns-long);
        bases-long = omega (arith, most, room.bases-long);
        order-long = omega arith;
        below = below_all m ws (some_below test m);
      },
      ready.numbers,
    )

pub list_places-requires : goal.list_places-requires
list_places-requires c = let s = c.args in
    let y = s.trace.smoothed.now in
    let t = s.trace.times.now in
    let m = s.apexes.count in
    let ready = c.requires.ready in
    let room = c.requires.room in
    let test = wide_at s.apexes.found.now t (length y) s.asked.min_width in
    let ws = passing test (up_to m) in
    let w = c.keep_wide-k in
    let front = filled-front ws s.order.now w.new.out w.result w.ensures.count w.ensures.front in
    let r = c.choose_places-c in
    let cs = chosen_places s.asked.sep y t s.apexes.found.now ws in
    let chosen-front = r.ensures.front ∙ ap (chosen_places s.asked.sep y t s.apexes.found.now) front in
    let few = some-few test m in
    let chosen_few = chosen-places-few s.asked.sep y t s.apexes.found.now ws in
    let below = chosen-places (λ q. q < m) s.asked.sep y t s.apexes.found.now ws (some_below test m) in
    let most = c.requires.apexes.2 in
    rw chosen-front (
      omega (arith, ready.raw, c.requires.apexes.1, most),
      simp (length-append, length-drop) (omega (arith, chosen_few, few, w.ensures.count, r.auto.order, w.auto.out, length-take-le w.result w.new.out (omega (arith, few, w.ensures.count, w.auto.out, ready.order-long, most)), ready.order-long, most)),
      (λ j h. let g = below_all m cs below j h in omega (arith, g, most, room.bases-long, r.auto.bases)),
      λ j h. (c.requires.apexes.0 (get_or cs j 0) (below_all m cs below j h)).room,
    )

pub returns : goal.returns
unfolding listed_places
returns c = let s = c.args in
    let y = s.trace.smoothed.now in
    let t = s.trace.times.now in
    let z = s.trace.raw.now in
    let found = s.apexes.found.now in
    let m = s.apexes.count in
    let test = wide_at found t (length y) s.asked.min_width in
    let ws = passing test (up_to m) in
    let w = c.keep_wide-k in
    let front = filled-front ws s.order.now w.new.out w.result w.ensures.count w.ensures.front in
    let r = c.choose_places-c in
    let cs = chosen_places s.asked.sep y t found ws in
    let below = chosen-places (λ q. q < m) s.asked.sep y t found ws (some_below test m) in
    let e = ap (with_shares z found) (r.ensures.front ∙ ap (chosen_places s.asked.sep y t found) front) in
    let xs = with_shares z found cs in
    let times = r.new.bases in
    let by = times-sorted y t found m times xs r.ensures.times (omega (arith, c.requires.apexes.2, c.requires.room.bases-long, r.auto.bases)) (shares-places (λ q. q < m) z found cs below) in
    record {
      count = c.list_places.ensures.count ∙ ap length e ∙ sym (sort-length (by_time y t found) xs);
      front = c.list_places.ensures.front ∙ ap (sorted_by (row times 1)) e ∙ by;
    }
