use Rattle.std.proofs.Common.{refl, sym, ◌∙◌, arith}
use Rattle.numeric.proofs.Patterns.{all_plain}
use Rattle.rt_search.proofs.Listed.{few, all-stand, rt-found, none_found, low-none, few-none}
use Rattle.rt_search.proofs.inner.find_rt_apexes.Goals as goal

pub returns-then-not-reaches_floor : goal.returns-then-not-reaches_floor
returns-then-not-reaches_floor c = let a = c.args.asked in
    let t = c.args.trace in
    record {
      found = none_found a.floor a.sep a.min_width t.smoothed.now t.raw.now t.times.now c.args.scratch.now.found.now c.args.order.now
          (low-none a.floor t.smoothed.now t.raw.now (sym c.reaches_floor.ensures ∙ c.if-not-reaches_floor.true));
      samples = refl;
      lists = (refl, refl, refl);
    }

pub returns-then-count-eq0 : goal.returns-then-count-eq0
returns-then-count-eq0 c = let a = c.args.asked in
    let t = c.args.trace in
    let found = c.find_apexes-count.new.s.found.now in
    let r = c.find_apexes-count in
    record {
      found = none_found a.floor a.sep a.min_width t.smoothed.now t.raw.now t.times.now found c.args.order.now
          (few-none a.floor t.smoothed.now t.raw.now found r.result r.ensures.done c.if-count-eq0.true);
      samples = r.ensures.samples;
      lists = r.ensures.lists;
    }

pub list_apexes-requires : goal.list_apexes-requires
list_apexes-requires c = let a = c.args.asked in
    let t = c.args.trace in
    let y = t.smoothed.now in
    let plain = all_plain 0x7f80_0000 y (omega arith) c.requires.numbers c.all_fit.ensures in
    let r = c.find_apexes-count in
    let s = r.new.s in
    let room = s.room in
    let long = c.requires.room in
    let same = r.ensures.samples in
    record {
      ready = record {
        numbers = c.requires.numbers;
        raw = c.requires.raw;
        times = c.requires.times;
        short = c.requires.short;
        room = omega arith;
        order-long = c.requires.order-long;
      };
      room = record {
        turns-long = omega (arith, room.turns-long);
        bases-long = omega (arith, room.bases-long);
        found-long = omega (arith, room.found-long);
      };
      apexes = (
        (λ p h. (all-stand a.floor a.sep a.min_width y t.raw.now t.times.now s.found.now r.result r.ensures.done plain p h).inside),
        (let ne = c.if-count-eq0.false in omega arith),
        few a.floor a.sep a.min_width y t.raw.now t.times.now s.found.now r.result r.ensures.done plain,
      );
    }

pub returns : goal.returns
returns c = let a = c.args.asked in
    let t = c.args.trace in
    let y = t.smoothed.now in
    let plain = all_plain 0x7f80_0000 y (omega arith) c.requires.numbers c.all_fit.ensures in
    let r = c.find_apexes-count in
    let found = r.new.s.found.now in
    let l = c.list_apexes in
    let most = few a.floor a.sep a.min_width y t.raw.now t.times.now found r.result r.ensures.done plain in
    record {
      found = rt-found a.floor a.sep a.min_width y t.raw.now t.times.now found r.result r.ensures.done plain l.new.order l.result
          l.ensures.count l.ensures.front (omega (arith, most, c.requires.order-long, l.auto.order));
      samples = r.ensures.samples;
      lists = c.find_apexes-count.ensures.lists;
    }
